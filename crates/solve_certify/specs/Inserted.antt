-- The right side of a system inserted into its last level: what memory holds where its block became zero, and where it got stuck.
use Rattle.std.specs.Prelude.{ℕ, suc, ◌+◌, ◌*◌, ◌<◌, ◌≤◌, ◌≡◌, refl, List, length, get_or}
use Rattle.std.proofs.Common.{sym, ◌∙◌, ap, arith}
use Rattle.algebra.specs.Polynomial.{Polynomial, polynomials}
use Rattle.algebra.specs.Size.{size, sized}
use Rattle.modular.specs.Prime.{Prime}
use Rattle.modular.specs.Residue.{residues}
use Rattle.vector.specs.Bound.{AtMost}
use Rattle.vector.specs.Stored.{length_stored}
use Rattle.vector.specs.Reduced.{polynomial}
use Rattle.reduction.specs.Total.{rank, degrees, rank_le}
use Rattle.reduction.specs.Pivot.{Vanishes}
use Rattle.reduction.specs.Slots.{Slots, unweighted}
use Rattle.reduction.specs.Transpose.{Tops}
use Rattle.reduction.specs.Insert.{Stuck}
use Rattle.reduction.specs.Inserting.{begin, Inserting}
use Rattle.reduction.specs.Polynomials.{associate, euclidean}
use Rattle.reduction.specs.Levels as reduction
use Rattle.reduction.specs.Solution.{solution_positive, solution_tops, solution_room}
use Rattle.reduction.specs.Holds.{Holds}
use Rattle.reduction.specs.Flat.{Flat}
use Rattle.solve_lattice.specs.Word.{words}
use Rattle.solve_lattice.specs.Memory.{row, height, ZeroFrom, Level, slot_size, ValidLevel, Sums, Memory, places}
use Rattle.solve_lattice.specs.Holding.{HoldsSlots, Reached}
use Rattle.solve_lattice.specs.Sums.{sums_fewer}
use Rattle.solve_lattice.specs.Found.{found_ends}
use Rattle.solve_lattice.specs.Reading.{flat_same, holds_zero, holds_pivot}
use Rattle.solve_lattice.specs.Insertion.{Inserts}
use Rattle.solve_lattice.specs.Input.{Equations, input_system}
use Rattle.solve_levels.specs.Begun.{ValidColumn}
use Rattle.solve_levels.specs.Started.{Started}
use Rattle.solve_popov.specs.Words.{words_copied}
use Rattle.solve_lattice.specs.Room.{block_words, tail_words, block_degrees, last_degree, lanes, most_coefficients, most_degree}
use Rattle.solve_certify.specs.Witnessed.{HoldsLast}
use Rattle.solve_certify.specs.Denominator.{side_words, side_below}

module _ (p : ℕ) (prime : Prime p) (n m : ℕ) where
  -- the slots after the insertion into U, and the tail that is left
  pub record HoldsVanished (X : Equations p prime n m) (U : Slots (Polynomial (residues p prime))) (input : List ℕ) (L : Level)
      (tail : List ℕ) : Type 0 where
    pub side : Flat (residues p prime) n lanes unweighted (words p prime input (block_words * m) block_words) X.side
    pub last : reduction.LevelKnown (input_system p prime n m X) m U
    pub inserting : Inserting (sized (residues p prime)) n unweighted U X.side
    pub vanishes : Vanishes (polynomials (residues p prime)) n inserting.now.hand
    pub slots : HoldsSlots p prime n unweighted L inserting.now.slots
    pub held : Holds (residues p prime) (words p prime tail 0 tail_words) (inserting.now.hand n)

  -- stuck at h; L still holds U
  pub record HoldsStuck (X : Equations p prime n m) (U : Slots (Polynomial (residues p prime))) (L : Level) (h : ℕ) : Type 0 where
    pub last : reduction.LevelKnown (input_system p prime n m X) m U
    pub inserting : Inserting (sized (residues p prime)) n unweighted U X.side
    pub stuck : Stuck (sized (residues p prime)) n unweighted inserting.now
    pub at : stuck.at ≡ h
    pub slots : HoldsSlots p prime n unweighted L U

-- some system has come there
pub record HasVanished (p n m : ℕ) (input : List ℕ) (L : Level) (tail : List ℕ) : Type 0 where
  pub prime : Prime p
  pub equations : Equations p prime n m
  pub slots : Slots (Polynomial (residues p prime))
  pub vanished : HoldsVanished p prime n m equations slots input L tail

pub record HasStuck (p n : ℕ) (L : Level) (h : ℕ) : Type 0 where
  pub prime : Prime p
  pub columns : ℕ
  pub equations : Equations p prime n columns
  pub slots : Slots (Polynomial (residues p prime))
  pub stuck : HoldsStuck p prime n columns equations slots L h

-- slots in memory have at most as many degrees as a block
pub slots_high : {p : ℕ} (prime : Prime p) {n : ℕ} {ω : ℕ → ℕ} {L : Level} {U : Slots (Polynomial (residues p prime))} → n ≤ lanes
    → ValidLevel p L → HoldsSlots p prime n ω L U → (q : ℕ) → q < n → U.size q ≤ block_degrees
slots_high prime {L = L} few_rows valid holds q h =
    let within : slot_size L q ≤ block_words = (valid.slot q (omega arith)).block.within in
    omega (arith, holds.size q h)

-- L6: at most as many slots as lanes, of the degree of a block
pub last_degrees : {p : ℕ} (prime : Prime p) {n m : ℕ} {X : Equations p prime n m} {U : Slots (Polynomial (residues p prime))}
    → n ≤ lanes → reduction.LevelKnown (input_system p prime n m X) m U
    → (rank n U.size * last_degree ≤ most_degree) × (degrees n U.size ≤ most_degree)
last_degrees prime {n = n} {U = U} few_rows last =
    let few : rank n U.size ≤ lanes = omega (arith, rank_le n U.size) in
    let small : degrees n U.size ≤ rank n U.size * last_degree = last.degrees_le in
    (omega arith, omega arith)

module _ {p : ℕ} (prime : Prime p) {n m : ℕ} {X : Equations p prime n m} {U : Slots (Polynomial (residues p prime))}
    (few_rows : n ≤ lanes) where
  pub vanished_some : {input : List ℕ} {L : Level} {tail : List ℕ} (Q : HoldsVanished p prime n m X U input L tail)
      → 0 < size (residues p prime) (Q.inserting.now.hand n)
  vanished_some Q =
      solution_positive (euclidean (residues p prime)) (input_system p prime n m X) Q.last Q.inserting Q.vanishes

  -- there is a second system
  pub vanished_tops : {input : List ℕ} {L : Level} {tail : List ℕ} → ValidLevel p L
      → (Q : HoldsVanished p prime n m X U input L tail)
      → Tops (sized (residues p prime)) n (degrees n U.size) block_degrees Q.inserting.now.slots
  vanished_tops valid Q = solution_tops (euclidean (residues p prime)) (input_system p prime n m X) Q.last Q.inserting
      Q.vanishes
      block_degrees (slots_high prime few_rows valid Q.slots)

  -- d, made monic from what is left of the tail, has room among the slots' degrees
  pub vanished_room : {input : List ℕ} {L : Level} {tail : List ℕ} (Q : HoldsVanished p prime n m X U input L tail)
      → size (residues p prime) ((polynomials (residues p prime)).mul
      (associate (residues p prime) (Q.inserting.now.hand n) (vanished_some Q)).unit (Q.inserting.now.hand n))
      + degrees n Q.inserting.now.slots.size ≤ suc (degrees n U.size)
  vanished_room Q = solution_room (euclidean (residues p prime)) (input_system p prime n m X) Q.last Q.inserting Q.vanishes
      (associate (residues p prime) (Q.inserting.now.hand n) (vanished_some Q))

-- the right side inserted into a copy of L: the slots and the tail then, and how many words are left of the block
pub record LastInserted (p m : ℕ) (input : List ℕ) (L L' : Level) (tail : List ℕ) (size : ℕ) : Type 0 where
  pub valid : ValidLevel p L'
  pub small : ZeroFrom p tail 0 tail_words most_coefficients
  pub sums : Sums p 0 tail
  pub vanished : (prime : Prime p) (n : ℕ) (X : Equations p prime n m) (H : HoldsLast p prime n m X input L) → size ≡ 0
      → HoldsVanished p prime n m X H.slots input L' tail
  pub stuck : (prime : Prime p) (n : ℕ) (X : Equations p prime n m) (H : HoldsLast p prime n m X input L) → 0 < size
      → HoldsStuck p prime n m X H.slots L (row size)

-- the right side copied to a block, whose size was found
module _ {p : ℕ} (prime₀ : Prime p) (input : List ℕ) (m : ℕ) (below : (i : ℕ) → get_or input i 0 < p) (zeros : List ℕ)
    (room : length zeros ≡ block_words) (none : AtMost 0 zeros) {block : List ℕ} (copied : block ≡ side_words input m zeros) where
  pub block_below : (i : ℕ) → get_or block i 0 < p
  block_below = side_below prime₀ input m zeros copied below none

  pub side_column : {size : ℕ} → size ≡ length (polynomial p block 0 block_words) → ValidColumn p block size
  side_column {size} found = record {
    room = ap length copied ∙ length_stored (λ j. get_or input (block_words * m + j) 0) zeros 0 block_words ∙ room;
    ends = found_ends p (omega (arith, prime₀.large)) block block_words block_words (omega arith) (λ j h lt. absurd (omega arith))
        size found;
    sums = λ i. omega (arith, block_below i);
  }

module _ {p m : ℕ} {input : List ℕ} {L : Level} {M M' : Memory} (started : Started p L M) (zeros : List ℕ)
    (room : length zeros ≡ block_words) (copied : M.block ≡ side_words input m zeros) (done : Inserts p M M') where
  module _ (prime : Prime p) (n : ℕ) (X : Equations p prime n m) (H : HoldsLast p prime n m X input L) where
    same : (x : ℕ) → words p prime input (block_words * m) block_words x ≡ words p prime M.block 0 block_words x
    same x = words_copied p prime input zeros (block_words * m) 0 block_words (block_words * m) 0 block_words (omega arith)
        (omega arith) (omega arith)
        (omega arith) x
        ∙ ap (λ w. words p prime w 0 block_words x) (sym copied)

    abbrev R : Reached p prime n unweighted
        (begin (polynomials (residues p prime)) n H.slots X.side (height M.hand.size)) M'
    R = done.leads prime n unweighted (begin (polynomials (residues p prime)) n H.slots X.side (height M.hand.size))
        (started.holds prime n H.slots X.side H.holds (flat_same same H.system.side))

    abbrev made : Inserting (sized (residues p prime)) n unweighted H.slots X.side
    made = record { size = height M.hand.size; now = R.now; trace = R.trace }

    inserted_vanished : M'.hand.size ≡ 0 → HoldsVanished p prime n m X H.slots input M'.level M'.tail
    inserted_vanished none = record {
      side = H.system.side;
      last = H.last;
      inserting = made;
      vanishes = holds_zero p prime done.valid.hand R.holds none;
      slots = R.holds.slots;
      held = R.holds.hand.tail;
    }

    inserted_stuck : 0 < M'.hand.size → HoldsStuck p prime n m X H.slots L (row M'.hand.size)
    inserted_stuck some =
        let P = holds_pivot p prime done.valid.hand R.holds some in record {
          last = H.last;
          inserting = made;
          stuck = record {
            at = row M'.hand.size;
            pivot = P;
            empty = omega (arith, R.holds.slots.size _ P.inside, done.stops some);
          };
          at = refl;
          slots = H.holds;
        }

  pub side_inserted : LastInserted p m input L M'.level M'.tail M'.hand.size
  side_inserted = record {
    valid = done.valid.level;
    small = done.tail;
    sums = sums_fewer p M'.tail (places M') 0 (omega arith) done.valid.hand.tail_sums;
    vanished = inserted_vanished;
    stuck = inserted_stuck;
  }
