-- The denominator d: a tail made monic. With it d·b, for the right side b of the input.
use Rattle.std.specs.Prelude.{ℕ, ◌+◌, ◌*◌, ◌<◌, ◌≤◌, ◌≡◌, List, length, get_or}
use Rattle.std.proofs.Common.{sym, ◌∙◌, ap, subst, arith}
use Rattle.algebra.specs.Polynomial.{Polynomial, polynomials}
use Rattle.algebra.specs.Size.{size, sized}
use Rattle.modular.specs.Prime.{Prime}
use Rattle.modular.specs.Residue.{residues}
use Rattle.vector.specs.Bound.{AtMost}
use Rattle.vector.specs.Stored.{stored}
use Rattle.reduction.specs.Slots.{unweighted}
use Rattle.reduction.specs.Euclidean.{associate_size}
use Rattle.reduction.specs.Polynomials.{associate}
use Rattle.reduction.specs.Holds.{Holds, holds_size}
use Rattle.reduction.specs.Flat.{Flat}
use Rattle.solve_lattice.specs.Word.{words}
use Rattle.solve_lattice.specs.Room.{product_words, block_words, tail_words, lanes, most_coefficients, most_places}
use Rattle.solve_lattice.specs.Memory.{ZeroFrom, Ends, Sums}
use Rattle.solve_lattice.specs.Range.{words_zero, ends_most}
use Rattle.solve_lattice.specs.Reading.{flat_same}
use Rattle.solve_second.specs.Monic.{MadeMonic}
use Rattle.solve_second.specs.Product.{BlockMultiplied}
use Rattle.solve_second.specs.ProductLaws.{product_sums}
use Rattle.solve_popov.specs.Words.{held_zero_from, words_copied}
use Rattle.solve_certify.specs.Words.{stored_below, held_fewer}

-- the tail is not zero
pub record HasTail (p : ℕ) (tail : List ℕ) : Type 0 where
  pub prime : Prime p
  pub polynomial : Polynomial (residues p prime)
  pub some : 0 < size (residues p prime) polynomial
  pub holds : Holds (residues p prime) (words p prime tail 0 tail_words) polynomial

-- d in a block, d·b in t
pub record HoldsDenominator (p : ℕ) (prime : Prime p) (n : ℕ) (d t : List ℕ) (x : Polynomial (residues p prime))
    (b : ℕ → Polynomial (residues p prime)) : Type 0 where
  pub denominator : Holds (residues p prime) (words p prime d 0 block_words) x
  pub vector : Flat (residues p prime) n lanes unweighted (words p prime t 0 product_words)
      (λ k. (polynomials (residues p prime)).mul x (b k))

pub record HasDenominator (p m : ℕ) (input tail d t : List ℕ) (found : ℕ) : Type 0 where
  pub below : (i : ℕ) → get_or d i 0 < p
  pub room : length t ≡ product_words
  pub vector_sums : Sums p most_places t
  pub ends : Ends p d 0 block_words found
  pub small : found ≤ most_coefficients
  pub holds : (prime : Prime p) (n : ℕ) (x : Polynomial (residues p prime)) (some : 0 < size (residues p prime) x)
      (b : ℕ → Polynomial (residues p prime)) → Holds (residues p prime) (words p prime tail 0 tail_words) x
      → Flat (residues p prime) n lanes unweighted (words p prime input (block_words * m) block_words) b
      → HoldsDenominator p prime n d t ((polynomials (residues p prime)).mul (associate (residues p prime) x some).unit x) b

-- the words of the right side, copied
abbrev pub side_words : List ℕ → ℕ → List ℕ → List ℕ
side_words input m l = stored (λ j. get_or input (block_words * m + j) 0) l 0 block_words

pub side_below : {p : ℕ} → Prime p → (input : List ℕ) (m : ℕ) (l : List ℕ) {block : List ℕ} → block ≡ side_words input m l
    → ((i : ℕ) → get_or input i 0 < p) → AtMost 0 l → (i : ℕ) → get_or block i 0 < p
side_below {p} prime input m l copied below none = subst (λ w. (i : ℕ) → get_or w i 0 < p) (sym copied)
    (stored_below p (λ j. get_or input (block_words * m + j) 0) l 0 block_words some (λ j lt. below (block_words * m + j))
    (λ i. omega (arith, none i, some)))
  where
    some : 0 < p
    some = omega (arith, prime.large)

module _ {p : ℕ} {tail d : List ℕ} {found : ℕ} (made : MadeMonic p tail d found) where
  -- a tail has no more coefficients than a polynomial of a certificate
  pub monic_small : ZeroFrom p tail 0 tail_words most_coefficients → HasTail p tail → found ≤ most_coefficients
  monic_small zero has = go has.prime has.polynomial has.some has.holds
    where
      go : (prime : Prime p) (x : Polynomial (residues p prime)) (some : 0 < size (residues p prime) x)
          → Holds (residues p prime) (words p prime tail 0 tail_words) x → found ≤ most_coefficients
      go prime x some A =
          let few : size (residues p prime) x ≤ most_coefficients =
          holds_size (residues p prime) A most_coefficients (words_zero p prime tail 0 tail_words most_coefficients zero) in
          ends_most d 0 block_words found most_coefficients made.ends
          (held_zero_from p prime d 0 block_words most_coefficients (made.holds prime x some A)
          (omega (arith, associate_size (sized (residues p prime)) (associate (residues p prime) x some) some)))

  pub denominator_made : (input : List ℕ) (m : ℕ) (l : List ℕ) {block t : List ℕ} → block_words ≤ length l
      → block ≡ side_words input m l
      → found ≤ most_coefficients → BlockMultiplied p d found block block_words t → HasDenominator p m input tail d t found
  denominator_made input m l {block} {t} room stores small multiplied = record {
    below = made.below;
    room = multiplied.room;
    vector_sums = product_sums multiplied;
    ends = made.ends;
    small = small;
    holds = λ prime n x some b A B.
        let D = made.holds prime x some A in
        let unit = (associate (residues p prime) x some).unit in
        let copied : (j : ℕ) → words p prime input (block_words * m) block_words j ≡ words p prime block 0 block_words j =
        λ j. words_copied p prime input l (block_words * m) 0 block_words (block_words * m) 0 block_words room (omega arith)
        (omega arith) (omega arith) j
        ∙ ap (λ w. words p prime w 0 block_words j) (sym stores) in record {
          denominator = D;
          vector = multiplied.holds prime n unweighted ((polynomials (residues p prime)).mul unit x) b
              (held_fewer p prime d 0 block_words found D made.ends.within made.ends.behind) (flat_same copied B);
        };
  }
