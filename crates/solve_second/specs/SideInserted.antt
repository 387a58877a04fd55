-- The right side inserted into the transposed slots, in memory: how it begins, and that it ends with block zero.
use Rattle.std.specs.Prelude.{ℕ, zero, suc, ◌+◌, ◌-◌, ◌*◌, ◌%◌, ◌<◌, ◌≤◌, ◌≡◌, refl, List, length, get_or, set, replicate}
use Rattle.std.proofs.Common.{sym, ◌∙◌, ap, subst, inl, inr, zero-add, mod-eq_of_lt, arith, length-set, get_or-set_same, get_or-set_other}
use Rattle.std.proofs.Math.Nat.{zero-mod}
use Rattle.std.proofs.lemmas.List.{length-replicate}
use Rattle.algebra.specs.Coefficients.{leading}
use Rattle.algebra.specs.Polynomial.{Polynomial, polynomials, coefficients_one}
use Rattle.algebra.specs.Expressions.{shift}
use Rattle.algebra.specs.Series.{unit}
use Rattle.algebra.specs.Size.{size, sized}
use Rattle.modular.specs.Modulo.{modulo}
use Rattle.modular.specs.Prime.{Prime}
use Rattle.modular.specs.Residue.{residues}
use Rattle.residue.specs.Sum.{residue_small}
use Rattle.reduction.specs.Total.{degrees, total_le, total_constant}
use Rattle.reduction.specs.Replace.{extend_below, extend_at}
use Rattle.reduction.specs.Pivot.{Vanishes}
use Rattle.reduction.specs.Slots.{Slots, unweighted}
use Rattle.reduction.specs.Holds.{Holds, holds_size}
use Rattle.reduction.specs.Flat.{Flat, flat}
use Rattle.reduction.specs.Insert.{Stop, Inserted}
use Rattle.reduction.specs.Inserting.{Inserting, begin}
use Rattle.reduction.specs.Transpose.{Tops, transposed, second_side, weights}
use Rattle.reduction.specs.Second.{not_stuck}
use Rattle.vector.specs.Bound.{AtMost, Reducible, at_most_reducible, zeros_none}
use Rattle.vector.specs.Reduced.{polynomial}
use Rattle.vector.specs.declared.leading.Leading.{Leading}
use Rattle.solve_lattice.specs.Word.{words, words_first, residue_one}
use Rattle.solve_lattice.specs.Memory.{height, ZeroFrom, Ends, Level, tail_size, ValidLevel, Sums, Memory, Valid}
use Rattle.solve_lattice.specs.Holding.{HoldsSlots, HoldsState}
use Rattle.solve_lattice.specs.Range.{words_zero}
use Rattle.solve_lattice.specs.Reading.{holds_filled}
use Rattle.solve_lattice.specs.Found.{found_ends, found_leading}
use Rattle.solve_lattice.specs.Insertion.{Starts, Inserts, inserts_inserted}
use Rattle.solve_lattice.specs.Room.{product_words, block_words, slot_words, tail_words, block_degrees, lanes, most_coefficients}
use Rattle.solve_lattice.specs.Room.{last_degree, most_degree}
use Rattle.solve_second.specs.Greatest.{greatest, greatest_high}
use Rattle.solve_second.specs.Laid.{SecondLaid, starting_memory}
use Rattle.solve_second.specs.Transposed.{transposed_slots, side_held}
use Rattle.solve_second.specs.ValidTransposed.{transposed_valid, second_side_below}

-- of slots U of n rows, D high: memory holds the last state of the insertion, with block zero
pub record InsertedSide (p : ℕ) (prime : Prime p) (n D : ℕ) (U : Slots (Polynomial (residues p prime))) (M : Memory) : Type 0 where
  pub run : Inserting (sized (residues p prime)) n (weights (polynomials (residues p prime)) n D U)
      (transposed (polynomials (residues p prime)) n D U) (second_side (polynomials (residues p prime)) n D U)
  pub holds : HoldsState p prime n (weights (polynomials (residues p prime)) n D U) M run.now
  pub ends : Vanishes (polynomials (residues p prime)) n run.now.hand

pub record SideInserted (p n : ℕ) (L : Level) (M : Memory) : Type 0 where
  pub valid : Valid p M
  pub tail : ZeroFrom p M.tail 0 tail_words most_coefficients
  pub inserted : (prime : Prime p) (U : Slots (Polynomial (residues p prime))) → HoldsSlots p prime n unweighted L U
      → InsertedSide p prime n (greatest L n) U M

-- slots are no higher than the greatest height in memory
module _ {p : ℕ} {prime : Prime p} {n : ℕ} {L : Level} {U : Slots (Polynomial (residues p prime))}
    (holds : HoldsSlots p prime n unweighted L U) where
  pub holds_high : (q : ℕ) → q < n → U.size q ≤ greatest L n
  holds_high q h = omega (arith, holds.size q h, greatest_high L n q h)

  pub tops_lower : {B D : ℕ} → Tops (sized (residues p prime)) n B D U → Tops (sized (residues p prime)) n B (greatest L n) U
  tops_lower tops = record { filled = tops.filled; tails = tops.tails; high = holds_high }

sums_small : (p m : ℕ) (l : List ℕ) → AtMost p l → Sums p m l
sums_small p m l h i = omega (arith, h i)

-- the tail 1
abbrev tail_one : List ℕ
tail_one = set (replicate tail_words 0) 0 1

one : get_or tail_one 0 0 ≡ 1
one = get_or-set_same (replicate tail_words 0) 0 1 0 (omega (arith, length-replicate {A = ℕ} tail_words 0))

rest : (j : ℕ) → 0 < j → get_or tail_one j 0 ≡ 0
rest j h = get_or-set_other (replicate tail_words 0) 0 j 1 0 (λ e. omega arith) ∙ omega (arith, zeros_none tail_words j)

tail_small : {p : ℕ} → Prime p → AtMost p tail_one
tail_small prime zero = omega (arith, one, prime.large)
tail_small prime (suc j) = omega (arith, rest (suc j) (omega arith))

module _ (p : ℕ) (prime : Prime p) {n : ℕ} (small : n ≤ lanes) {L : Level} (valid : ValidLevel p L) {T : Level} {b : List ℕ}
    (laid : SecondLaid n L T b) where
  positive : 0 < p
  positive = omega (arith, prime.large)

  block_small : AtMost p b
  block_small i = omega (arith, second_side_below p small valid laid i)

  -- so the size of the block can be found
  pub block_reducible : Reducible p b product_words
  block_reducible = at_most_reducible p p b product_words (residue_small p p positive (omega arith)) block_small

module _ (p : ℕ) (prime : Prime p) {n : ℕ} (small : n ≤ lanes) {L : Level} (valid : ValidLevel p L) {T : Level} {b : List ℕ}
    (laid : SecondLaid n L T b) (found : Leading) (found_size : found.size ≡ length (polynomial p b 0 product_words))
    (found_value : found.value ≡ leading (modulo p) (polynomial p b 0 product_words)) where
  behind_none : ZeroFrom p b 0 product_words product_words
  behind_none j h lt = absurd (omega arith)

  block_ends : Ends p b 0 product_words found.size
  block_ends = found_ends p (positive p prime small valid laid) b product_words product_words (omega arith) behind_none
      found.size found_size

  pub first_valid : Valid p (starting_memory T b found)
  first_valid = record {
    level = transposed_valid p (positive p prime small valid laid) small valid laid.slots;
    hand = record {
      room = omega (arith, laid.room);
      degrees = omega (arith, laid.room, block_ends.within);
      tail_room = omega (arith, length-set {A = ℕ} (replicate tail_words 0) 0 1, length-replicate {A = ℕ} tail_words 0);
      block = block_ends;
      leading = found_leading p (positive p prime small valid laid) b product_words product_words (omega arith) behind_none
          found.size found_size
          found.value found_value;
      tail_within = omega arith;
      tail = λ j h lt. ap (λ w. w % p) (ap (λ i. get_or tail_one i 0) (zero-add j) ∙ rest j (omega arith)) ∙ zero-mod p;
      sums = sums_small p _ b (block_small p prime small valid laid);
      tail_sums = sums_small p _ tail_one (tail_small prime);
    };
  }

  pub first_starts : Starts p (starting_memory T b found)
  first_starts = record { tails = laid.slots.tails; tail = refl; one = ap (λ w. w % p) one ∙ mod-eq_of_lt prime.large }

  module _ {U : Slots (Polynomial (residues p prime))} (holds : HoldsSlots p prime n unweighted L U) where
    abbrev C : Slots (Polynomial (residues p prime))
    C = transposed (polynomials (residues p prime)) n (greatest L n) U

    abbrev g : ℕ → Polynomial (residues p prime)
    g = second_side (polynomials (residues p prime)) n (greatest L n) U

    tail_one_lem : Holds (residues p prime) (words p prime tail_one 0 tail_words) (polynomials (residues p prime)).one
    tail_one_lem = record { at = λ k. coefficients_one (residues p prime) k ∙ at k }
      where
        at : (k : ℕ) → unit (residues p prime).ring k ≡ words p prime tail_one 0 tail_words k
        at zero = sym (words_first p prime tail_one tail_words 0 (omega arith) ∙ residue_one p prime _ first_starts.one)
        at (suc k) = sym (words_zero p prime tail_one 0 tail_words 1 first_valid.hand.tail (suc k) (omega arith))

    first_holds : HoldsState p prime n (weights (polynomials (residues p prime)) n (greatest L n) U) (starting_memory T b found)
        (begin (polynomials (residues p prime)) n (transposed (polynomials (residues p prime)) n (greatest L n) U)
        (second_side (polynomials (residues p prime)) n (greatest L n) U) (height found.size))
    first_holds = record {
      slots = transposed_slots p prime small valid holds laid.slots;
      hand = record {
        block = record {
          lanes = B.lanes;
          lane = λ i h. subst (λ v. Holds (residues p prime) (λ e. words p prime b 0 product_words (flat lanes i e))
              (shift (residues p prime) (weights (polynomials (residues p prime)) n (greatest L n) U i) v))
              (sym (extend_below n g (polynomials (residues p prime)).one i h)) (B.lane i h);
          beside = B.beside;
        };
        tail = subst (Holds (residues p prime) _) (sym (extend_at n g (polynomials (residues p prime)).one)) tail_one_lem;
      };
      size = refl;
    }
      where
        B : Flat (residues p prime) n lanes (weights (polynomials (residues p prime)) n (greatest L n) U)
            (words p prime b 0 product_words) g
        B = side_held p prime small valid holds laid

    -- some bound on the tails is always there: they have at most 121 coefficients
    low : (q : ℕ) → q < n → U.size q ≤ block_degrees
    low q h = omega (arith, holds.size q h, (valid.slot q (omega arith)).block.within)

    tops : Tops (sized (residues p prime)) n (most_degree + most_coefficients) (greatest L n) U
    tops = record {
      filled = holds_filled p prime valid holds;
      tails = λ q h f y. omega (arith, degrees_small, tail_size_lem q h f);
      high = holds_high holds;
    }
      where
        degrees_small : degrees n U.size ≤ most_degree
        degrees_small =
            omega (
              arith,
              total_le n (λ q. U.size q - 1) (λ q. last_degree) (λ q h. omega (arith, low q h)),
              total_constant n last_degree,
            )

        tail_size_lem : (q : ℕ) → q < n → 0 < U.size q → size (residues p prime) (U.at q n) ≤ most_coefficients
        tail_size_lem q h f = holds_size (residues p prime) (holds.vector q h f).tail most_coefficients
            (λ j l. words_zero p prime L (slot_words * q + block_words) block_words (tail_size L q) (valid.slot q (omega arith)).tail
            j
            (omega (arith, (valid.slot q (omega arith)).tail_within)))

    abbrev ω : ℕ → ℕ
    ω = weights (polynomials (residues p prime)) n (greatest L n) U

    abbrev Last : Memory → Type 0
    Last M' = (i : Inserted (sized (residues p prime)) n ω (begin (polynomials (residues p prime)) n C g (height found.size)))
        × HoldsState p prime n ω M' i.last

    ended : {M' : Memory} → Last M' → InsertedSide p prime n (greatest L n) U M'
    ended {M'} last = record { run = X; holds = last.1; ends = go last.0.stop }
      where
        X : Inserting (sized (residues p prime)) n ω C g
        X = record { size = height found.size; now = last.0.last; trace = last.0.trace }

        go : Stop (sized (residues p prime)) n ω last.0.last → Vanishes (polynomials (residues p prime)) n last.0.last.hand
        go (inl z) = z
        go (inr K) = absurd (not_stuck tops X K)

    pub side_ends : {M' : Memory} → Inserts p (starting_memory T b found) M' → InsertedSide p prime n (greatest L n) U M'
    side_ends done = ended (inserts_inserted p prime done first_holds)

pub second_side_inserted : (p : ℕ) → Prime p → {n : ℕ} → n ≤ lanes → {L : Level} → ValidLevel p L → {T : Level} {b : List ℕ}
    → SecondLaid n L T b
    → (found : Leading) → found.size ≡ length (polynomial p b 0 product_words)
    → found.value ≡ leading (modulo p) (polynomial p b 0 product_words)
    → {M' : Memory} → Inserts p (starting_memory T b found) M' → SideInserted p n L M'
second_side_inserted p prime small valid laid found found_size found_value done = record {
  valid = done.valid;
  tail = done.tail;
  inserted = λ prime' U holds. side_ends p prime' small valid laid found found_size found_value holds done;
}
