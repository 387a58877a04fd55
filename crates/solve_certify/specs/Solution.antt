-- The certificate of a solution, but for its numerators: d, w = d·w' and Z, with w' and Z of the second system of the slots after
-- the insertion. With it d·b as coefficients of the blocks of the slots before.
use Rattle.std.specs.Prelude.{ℕ, suc, ◌+◌, ◌-◌, ◌*◌, ◌<◌, ◌≤◌, ◌≡◌, List, length, get_or}
use Rattle.std.proofs.Common.{sym, ◌∙◌, subst, inl, arith}
use Rattle.algebra.specs.Polynomial.{Polynomial, polynomials}
use Rattle.algebra.specs.Sized.{size_mul_nonzero}
use Rattle.algebra.specs.Size.{size, sized}
use Rattle.modular.specs.Prime.{Prime}
use Rattle.modular.specs.Residue.{residues}
use Rattle.vector.specs.Stored.{stored, length_stored}
use Rattle.reduction.specs.Total.{rank, degrees}
use Rattle.reduction.specs.Slots.{Slots, unweighted}
use Rattle.reduction.specs.Euclidean.{associate_nonzero}
use Rattle.reduction.specs.Polynomials.{associate, euclidean}
use Rattle.reduction.specs.Unfinished.{Unfinished, unfinished}
use Rattle.reduction.specs.Holds.{Holds}
use Rattle.solve_lattice.specs.Word.{words}
use Rattle.solve_lattice.specs.Memory.{Level, ValidLevel}
use Rattle.solve_lattice.specs.Holding.{HoldsSlots}
use Rattle.solve_lattice.specs.Quotients.{BlockDivided}
use Rattle.solve_lattice.specs.Coefficients.{divided_coefficients}
use Rattle.solve_lattice.specs.Range.{words_apart, ends_most}
use Rattle.solve_lattice.specs.Input.{Equations, input_system}
use Rattle.solve_lattice.specs.Output.{ValidOutput}
use Rattle.solve_second.specs.Product.{Multiplied}
use Rattle.solve_second.specs.Solved.{HoldsSecond}
use Rattle.solve_popov.specs.Words.{held_zero_from, words_copied}
use Rattle.solve_popov.specs.Short.{HasMonicTops, HoldsShort, ShortSolved}
use Rattle.solve_lattice.specs.Room.{output_words, block_words, last_degree, lanes, most_coefficients}
use Rattle.solve_certify.specs.Witnessed.{HoldsUnfinished}
use Rattle.solve_certify.specs.Words.{stored_below, held_fewer}
use Rattle.solve_certify.specs.Inserted.{HoldsVanished, HasVanished, last_degrees, vanished_some, vanished_tops}
use Rattle.solve_certify.specs.Inserted.{vanished_room}
use Rattle.solve_certify.specs.Denominator.{HasTail, HasDenominator, HoldsDenominator}

pub record SolutionFound (p n m : ℕ) (input : List ℕ) (L L' : Level) (tail quotients output : List ℕ) : Type 0 where
  pub below : (i : ℕ) → get_or quotients i 0 < p
  pub valid : ValidOutput p output
  pub holds : (prime : Prime p) (X : Equations p prime n m) (U : Slots (Polynomial (residues p prime)))
      → HoldsSlots p prime n unweighted L U → HoldsVanished p prime n m X U input L' tail
      → HoldsUnfinished p prime n m X U quotients output

-- L2: what is left of the tail is not zero
pub vanished_tail : {p n m : ℕ} {input : List ℕ} {L : Level} {tail : List ℕ} → n ≤ lanes → HasVanished p n m input L tail
    → HasTail p tail
vanished_tail {n = n} few_rows has = record {
  prime = has.prime;
  polynomial = has.vanished.inserting.now.hand n;
  some = vanished_some has.prime few_rows has.vanished;
  holds = has.vanished.held;
}

-- a second system whose slots may be brought into Popov form
pub vanished_monic : {p n m : ℕ} {input : List ℕ} {L : Level} {tail d t : List ℕ} {found : ℕ} → n ≤ lanes → ValidLevel p L
    → HasVanished p n m input L tail → HasDenominator p m input tail d t found → HasMonicTops p n L d
vanished_monic {n = n} few_rows valid has denominator =
    let Q = has.vanished in
    let some = vanished_some has.prime few_rows Q in
    let e = Q.inserting.now.hand n in record {
      prime = has.prime;
      bound = degrees n has.slots.size;
      small = omega (arith, (last_degrees has.prime few_rows Q.last).1);
      slots = Q.inserting.now.slots;
      holds = Q.slots;
      tops = vanished_tops has.prime few_rows valid Q;
      polynomial = (polynomials _).mul (associate (residues _ has.prime) e some).unit e;
      monic = (associate (residues _ has.prime) e some).monic;
      room = vanished_room has.prime few_rows Q;
      holds_d = (denominator.holds has.prime n e some has.equations.side Q.held Q.side).denominator;
    }

-- d, w and the rows of Z at their places in written order
abbrev pub stored_solution : (n m : ℕ) (d w rows output : List ℕ) → List ℕ
stored_solution n m d w rows output = stored (λ j. get_or rows (0 + j) 0)
    (stored (λ j. get_or w (0 + j) 0) (stored (λ j. get_or d (0 + j) 0) output 0 block_words) (block_words * (1 + m)) block_words)
    (block_words * (2 + m)) (block_words * n)

module _ (p : ℕ) (prime₀ : Prime p) (n m : ℕ) (few_rows : n ≤ lanes) (columns : m ≤ lanes) (d w rows output : List ℕ)
    (valid : ValidOutput p output) where
  abbrev first : List ℕ
  first = stored (λ j. get_or d (0 + j) 0) output 0 block_words

  abbrev second : List ℕ
  second = stored (λ j. get_or w (0 + j) 0) (stored (λ j. get_or d (0 + j) 0) output 0 block_words) (block_words * (1 + m)) block_words

  first_length : length (stored (λ j. get_or d (0 + j) 0) output 0 block_words) ≡ output_words
  first_length = length_stored (λ j. get_or d (0 + j) 0) output 0 block_words ∙ valid.room

  second_length : length (stored (λ j. get_or w (0 + j) 0) (stored (λ j. get_or d (0 + j) 0) output 0 block_words)
      (block_words * (1 + m)) block_words) ≡ output_words
  second_length = length_stored (λ j. get_or w (0 + j) 0) first (block_words * (1 + m)) block_words ∙ first_length

  pub stored_valid : ((i : ℕ) → get_or d i 0 < p) → ((i : ℕ) → get_or w i 0 < p) → ((i : ℕ) → get_or rows i 0 < p)
      → ValidOutput p (stored_solution n m d w rows output)
  stored_valid d_below w_below rows_below = record {
    room = length_stored (λ j. get_or rows (0 + j) 0) second (block_words * (2 + m)) (block_words * n) ∙ second_length;
    below = stored_below p (λ j. get_or rows (0 + j) 0) second (block_words * (2 + m)) (block_words * n) some
        (λ j lt. rows_below (0 + j))
        (stored_below p (λ j. get_or w (0 + j) 0) first (block_words * (1 + m)) block_words some (λ j lt. w_below (0 + j))
        (stored_below p (λ j. get_or d (0 + j) 0) output 0 block_words some (λ j lt. d_below (0 + j)) valid.below));
  }
    where
      some : 0 < p
      some = omega (arith, prime₀.large)

  module _ (prime : Prime p) where
    pub stored_d : (x : ℕ) → words p prime d 0 block_words x ≡ words p prime (stored_solution n m d w rows output) 0 block_words x
    stored_d x =
        words_copied p prime d output 0 0 block_words 0 0 block_words (omega (arith, valid.room)) (omega arith) (omega arith)
        (omega arith) x
        ∙ sym (words_apart p prime (λ j. get_or w (0 + j) 0) first (block_words * (1 + m)) block_words 0 block_words (inl (omega arith))
        x)
        ∙ sym (words_apart p prime (λ j. get_or rows (0 + j) 0) second (block_words * (2 + m)) (block_words * n) 0 block_words
        (inl (omega arith)) x)

    pub stored_w : (x : ℕ) → words p prime w 0 block_words x ≡ words p prime (stored_solution n m d w rows output)
        (block_words * (1 + m)) block_words x
    stored_w x =
        words_copied p prime w first 0 (block_words * (1 + m)) block_words 0 (block_words * (1 + m)) block_words
        (omega (arith, first_length))
        (omega arith) (omega arith) (omega arith) x
        ∙ sym (words_apart p prime (λ j. get_or rows (0 + j) 0) second (block_words * (2 + m)) (block_words * n) (block_words * (1 + m))
        block_words
        (inl (omega arith)) x)

    pub stored_Z : (i : ℕ) → i < n → (x : ℕ)
        → words p prime rows (block_words * i) block_words x ≡ words p prime (stored_solution n m d w rows output)
        (block_words * (2 + m + i)) block_words x
    stored_Z i h = words_copied p prime rows second 0 (block_words * (2 + m)) (block_words * n) (block_words * i)
        (block_words * (2 + m + i)) block_words
        (omega (arith, second_length)) (omega arith) (omega arith) (omega arith)

-- the parts of the certificate
module _ {p n m : ℕ} {input : List ℕ} {L L' : Level} {tail d t : List ℕ} {found : ℕ} {w rows : List ℕ} (few_rows : n ≤ lanes)
    (level : ValidLevel p L') (has : HasDenominator p m input tail d t found) (solved : ShortSolved p n L' d w rows)
    {t' quotients : List ℕ} {left : ℕ} (divided : BlockDivided p L t t' quotients left) where
  module _ (prime : Prime p) (X : Equations p prime n m) (U : Slots (Polynomial (residues p prime)))
      (Q : HoldsVanished p prime n m X U input L' tail) where
    abbrev e : Polynomial (residues p prime)
    e = Q.inserting.now.hand n

    abbrev x : Polynomial (residues p prime)
    x = (polynomials (residues p prime)).mul (associate (residues p prime) e (vanished_some prime few_rows Q)).unit e

    D : HoldsDenominator p prime n d t x X.side
    D = has.holds prime n e (vanished_some prime few_rows Q) X.side Q.held Q.side

    H : HoldsShort p prime n (degrees n U.size) Q.inserting.now.slots x w rows
    H = solved.solved prime (degrees n U.size) Q.inserting.now.slots
        (omega (arith, (last_degrees prime few_rows Q.last).1))
        Q.slots (vanished_tops prime few_rows level Q) x (associate (residues p prime) e (vanished_some prime few_rows Q)).monic
        (vanished_room prime few_rows Q) D.denominator

    abbrev S : HoldsSecond p prime n (degrees n U.size) H.slots w rows
    S = H.second

    made : Unfinished (euclidean (residues p prime)) (input_system p prime n m X) U x
        ((polynomials (residues p prime)).mul x S.polynomial) S.Y
    made = unfinished (euclidean (residues p prime)) (input_system p prime n m X) Q.last Q.inserting Q.vanishes
        (associate (residues p prime) e (vanished_some prime few_rows Q)) H.reworked S.polynomial S.Y S.monic S.dual
        H.short

    -- L8: d and w' have together one coefficient more than their product, which is a polynomial of a certificate
    together : size (residues p prime) x + size (residues p prime) S.polynomial ≤ most_coefficients + 1
    together =
        let w₀ : Polynomial (residues p prime) = (polynomials (residues p prime)).mul x S.polynomial in
        let product : size (residues p prime) w₀ ≤ suc (rank n U.size * last_degree) =
        (made.small (λ j. (polynomials (residues p prime)).zero) (λ j h. omega (arith, (sized (residues p prime)).size_zero))
        ).certifying_denominator_lem in
        omega (
          arith,
          (last_degrees prime few_rows Q.last).0,
          size_mul_nonzero (sized (residues p prime)) x S.polynomial
              (associate_nonzero (sized (residues p prime)) (associate (residues p prime) e (vanished_some prime few_rows Q))
              (vanished_some prime few_rows Q)) S.dual.nonzero,
        )

    held_w : Holds (residues p prime) (words p prime w 0 (most_coefficients + 1 - found)) S.polynomial
    held_w = held_fewer p prime w 0 block_words (most_coefficients + 1 - found) S.holds_w (omega arith)
        (held_zero_from p prime w 0 block_words (most_coefficients + 1 - found) S.holds_w (omega (arith, together, most)))
      where
        most : found ≤ size (residues p prime) x
        most = ends_most d 0 block_words found (size (residues p prime) x) has.ends
            (held_zero_from p prime d 0 block_words (size (residues p prime) x) D.denominator (omega arith))

  stored_found : {product output : List ℕ} → Prime p → m ≤ lanes → Multiplied p d found w (most_coefficients + 1 - found) product
      → ValidOutput p output → SolutionFound p n m input L L' tail quotients (stored_solution n m d product rows output)
  stored_found {product} {output} prime₀ columns multiplied valid = record {
    below = divided.below;
    valid = stored_valid p prime₀ n m few_rows columns d product rows output valid
        has.below multiplied.below solved.rows_below;
    holds = λ prime X U slots Q. record {
      d = x prime X U Q;
      w = (polynomials (residues p prime)).mul (x prime X U Q) (S prime X U Q).polynomial;
      Z = (S prime X U Q).Y;
      unfinished = made prime X U Q;
      holds_d = record {
        at = λ j. (D prime X U Q).denominator.at j ∙ stored_d p prime₀ n m few_rows columns d product rows output valid prime j;
      };
      holds_w = record {
        at = λ j.
            (multiplied.holds prime (x prime X U Q) (S prime X U Q).polynomial
            (held_fewer p prime d 0 block_words found (D prime X U Q).denominator has.ends.within has.ends.behind)
            (held_w prime X U Q)).at j
            ∙ stored_w p prime₀ n m few_rows columns d product rows output valid prime j;
      };
      holds_Z = λ i h. record {
        at = λ j. ((S prime X U Q).holds_Y i h).at j ∙ stored_Z p prime₀ n m few_rows columns d product rows output valid prime i h j;
      };
      coefficients = divided_coefficients prime divided (record {
        slots = U;
        vector = λ k. (polynomials (residues p prime)).mul (x prime X U Q) (X.side k);
        holds_slots = slots;
        holds = (D prime X U Q).vector;
      }) (made prime X U Q).span;
    };
  }

  -- L7 and L8
  pub solution_found : {product output output' : List ℕ} → Prime p → m ≤ lanes
      → Multiplied p d found w (most_coefficients + 1 - found) product → ValidOutput p output
      → output' ≡ stored_solution n m d product rows output → SolutionFound p n m input L L' tail quotients output'
  solution_found prime₀ columns multiplied valid stores =
      subst (SolutionFound p n m input L L' tail quotients) (sym stores) (stored_found prime₀ columns multiplied valid)
