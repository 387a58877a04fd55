-- A step of an insertion: the multiple of the slot at the pivot is taken off the hand, block and tail. It is a `Step` of
-- `reduction`.
use Prim.Native.Nat.{ℕ, ◌+◌, ◌-◌, ◌*◌, ◌/◌, ◌<◌, ◌≤◌, max}
use mathlib.Core.Path.{◌≡◌, refl, ap}
use mathlib.Core.List.{List}
use native.Mathlib.Omega.{arith}
use lib.ListN.{length}
use Rattle.algebra.specs.Polynomial.{Polynomial, polynomials}
use Rattle.algebra.specs.Size.{sized}
use Rattle.modular.specs.Prime.{Prime}
use Rattle.modular.specs.Residue.{Residue, residues}
use Rattle.modular.specs.Bits.{bound64}
use Rattle.modular.specs.LargestPrime.{largest_modulus}
use Rattle.vector.specs.Stored.{stored, length_stored}
use Rattle.vector.specs.Multiple.{sum_at}
use Rattle.reduction.specs.Total.{total_le, total_constant}
use Rattle.reduction.specs.Pivot.{Pivot}
use Rattle.reduction.specs.Slots.{same_refl}
use Rattle.reduction.specs.Trace.{State, Step, start, step}
use Rattle.reduction.specs.Holds.{monomial, monomial_size}
use Rattle.reduction.specs.Held.{held_step}
use Rattle.solve_lattice.specs.Room.{block_words, slot_words, tail_words, lanes, most_places}
use Rattle.solve_lattice.specs.declared.step.Remains.{Remains}
use Rattle.solve_lattice.specs.Word.{residue}
use Rattle.solve_lattice.specs.Memory.{row, height, ZeroFrom, Level, slot_size, tail_size, ValidSlot}
use Rattle.solve_lattice.specs.Memory.{Memory, memory, places, Valid}
use Rattle.solve_lattice.specs.Holding.{HoldsState, Reached}
use Rattle.solve_lattice.specs.Range.{words_upper, words_lower, zero_kept}
use Rattle.residue.specs.Sum.{sum_fits}
use Rattle.solve_lattice.specs.Sums.{sums_room, sums_fewer, sums_step}
use Rattle.solve_lattice.specs.Reading.{holds_pivot}
use Rattle.solve_lattice.specs.Step.{HasMultiple, HasStep, TakesMultiple}
use Rattle.solve_lattice.specs.Moves.{Fits, Stepped}
use Rattle.solve_lattice.proofs.Stepping

-- no more than 2112 places
pub places_most : {p : ℕ} {M : Memory} → Valid p M → places M ≤ most_places
places_most {p} {M} valid = omega (
  arith,
  total_le lanes (slot_size M.level) (λ q. block_words) (λ q h. (valid.level.slot q h).block.within),
  total_constant lanes block_words,
  valid.hand.block.within,
)

pub fits_step : {p : ℕ} {M : Memory} → Valid p M → Fits M → HasStep p M.level M.block M.hand.size M.hand.leading
fits_step valid fits = record {
  multiple = record {
    level = valid.level;
    room = valid.hand.degrees;
    within = valid.hand.block.within;
    some = fits.some;
    leading = valid.hand.leading fits.some;
    filled = fits.filled;
    fits = fits.shorter;
  };
  behind = valid.hand.block.behind;
}

module _ {p : ℕ} (prime₀ : Prime p) {M : Memory} (valid : Valid p M) (fits : Fits M) {block' : List ℕ} {r : Remains}
    (T : TakesMultiple p M.level M.block M.hand.size M.hand.leading block' r) where
  abbrev k : ℕ
  k = M.hand.size

  abbrev q : ℕ
  q = row M.hand.size

  abbrev L : Level
  L = M.level

  abbrev S : HasMultiple p M.level M.block M.hand.size M.hand.leading
  S = (fits_step valid fits).multiple

  -- how many degrees the slot is moved up, and the size of its tail
  abbrev pub shift : ℕ
  shift = (M.hand.size - slot_size M.level (row M.hand.size)) / lanes

  abbrev size : ℕ
  size = tail_size M.level (row M.hand.size)

  slot : ValidSlot p M.level (row M.hand.size)
  slot = valid.level.slot (row M.hand.size) (omega arith)

  whole : k - slot_size L q ≡ shift * lanes
  whole = Stepping.step_shift p prime₀ S r.factor T.factor

  pub factor_below : r.factor < p
  factor_below = Stepping.step_factor p prime₀ S r.factor T.factor

  -- the places of the step on the tail
  pub taking_inside : shift + size ≤ tail_words
  taking_inside = omega (arith, whole, fits.filled, valid.hand.block.within, slot.tail_within)

  pub taking_sum : p ≤ largest_modulus → (j : ℕ) → j < block_words
      → sum_at M.tail shift L (slot_words * q + block_words) (p - r.factor) j < bound64
  taking_sum limit j lt =
      let positive : 0 < p = omega (arith, prime₀.large) in
      sum_fits p _ limit
      (omega (
        arith,
        sums_room p M.tail (places M) positive valid.hand.tail_sums (shift + j),
        Stepping.step_product p prime₀ S r.factor T.factor (slot_words * q + block_words + j) (omega arith),
      ))

  -- words that `add_scaled` takes of the slot's tail
  module _ (words : ℕ) (rounded : words ≡ height size * lanes) where
    pub taking_fits : words ≤ block_words
    taking_fits = omega (arith, slot.tail_within)

    pub taking_room : shift + words ≤ tail_words
    taking_room = omega (arith, whole, fits.filled, fits.short (row M.hand.size) (omega arith))

    taking_none : ZeroFrom p L (slot_words * q + block_words) block_words words
    taking_none j h lt = slot.tail j (omega arith) lt

  module _ (taken : ℕ) (rounded : taken ≡ height size * lanes) (tail' : List ℕ)
      (stores : tail' ≡ stored (sum_at M.tail shift L (slot_words * q + block_words) (p - r.factor)) M.tail shift taken)
      (t : ℕ) (larger : t ≡ max M.hand.tail_size (shift + size)) where
    abbrev M' : Memory
    M' = memory M.level block' tail' (record { size = r.size; leading = r.leading; tail_size = t })

    tail_there : shift + taken ≤ length M.tail
    tail_there = omega (arith, taking_room taken rounded, valid.hand.tail_room)

    behind : ZeroFrom p tail' 0 tail_words t
    behind = zero_kept p prime₀ M.tail tail' L shift (slot_words * q + block_words) taken block_words tail_words r.factor stores
        factor_below
        (taking_room taken rounded) tail_there (taking_none taken rounded) (taking_fits taken rounded)
        size t slot.tail (omega arith) (λ j h lt. valid.hand.tail j (omega arith) lt)

    same_length : length block' ≡ length M.block
    same_length = Stepping.step_length p prime₀ S r.factor T.factor block' T.words

    taken_valid : Valid p M'
    taken_valid = record {
      level = valid.level;
      hand = record {
        room = omega (arith, valid.hand.room, same_length);
        degrees = omega (arith, valid.hand.degrees, same_length, T.fewer);
        tail_room = omega (
          arith,
          valid.hand.tail_room,
          ap length stores,
          length_stored
              (sum_at M.tail shift L (slot_words * q + block_words) (p - r.factor)) M.tail shift taken,
        );
        block = T.ends;
        leading = T.leading;
        tail_within = omega (arith, valid.hand.tail_within, taking_inside);
        tail = behind;
        sums = sums_fewer p block' (places M - 1) (places M') (omega (arith, T.fewer))
            (Stepping.step_sums p prime₀ S r.factor T.factor block' T.words (places M) (omega (arith, fits.some))
            (omega (arith, places_most valid)) valid.hand.sums);
        tail_sums = sums_fewer p tail' (places M - 1) (places M') (omega (arith, T.fewer))
            (sums_step p M.tail tail' shift L (slot_words * q + block_words) taken (p - r.factor) stores
            (λ j lt. Stepping.step_product p prime₀ S r.factor T.factor (slot_words * q + block_words + j)
            (omega (arith, taking_fits taken rounded))) (places M) (omega (arith, fits.some))
            (omega (arith, places_most valid)) valid.hand.tail_sums);
      };
    }

    module _ (prime : Prime p) (n : ℕ) (ω : ℕ → ℕ) (s : State (Polynomial (residues p prime)))
        (holds : HoldsState p prime n ω M s) where
      P : Pivot (sized (residues p prime)) n ω s.hand (row M.hand.size) s.size
      P = holds_pivot p prime valid.hand holds fits.some

      length_slot : s.slots.size (row M.hand.size) ≡ height (slot_size M.level (row M.hand.size))
      length_slot = holds.slots.size (row M.hand.size) P.inside

      filled : 0 < s.slots.size (row M.hand.size)
      filled = omega (arith, length_slot, fits.filled)

      abbrev a : Residue p
      a = residue p prime r.factor

      abbrev hand' : ℕ → Polynomial (residues p prime)
      hand' i = (polynomials (residues p prime)).add (s.hand i) ((polynomials (residues p prime)).neg
          ((polynomials (residues p prime)).mul (monomial (residues p prime) a shift) (s.slots.at (row M.hand.size) i)))

      abbrev after : State (Polynomial (residues p prime))
      after = record { slots = s.slots; hand = hand'; size = height r.size }

      made : Step (sized (residues p prime)) n s after
      made = record {
        taken = record {
          at = row M.hand.size;
          inside = P.inside;
          filled = filled;
          factor = monomial (residues p prime) a shift;
          equal = λ i h. refl;
        };
        longer = omega (arith, length_slot, holds.size, fits.shorter);
        shift = omega (arith, monomial_size (residues p prime) a shift, length_slot, holds.size, fits.shorter, whole);
        slots = same_refl s.slots;
        falls = omega (arith, holds.size, T.fewer);
      }

      reached : Reached p prime n ω s M'
      reached = record {
        now = after;
        holds = record {
          slots = holds.slots;
          hand = held_step (residues p prime) a shift holds.hand
              (holds.slots.vector (row M.hand.size) P.inside filled)
              (Stepping.step_upper p prime S r.factor T.factor block' T.words)
              (Stepping.step_lower p prime S r.factor T.factor block' T.words)
              (words_upper p prime M.tail tail' L shift (slot_words * q + block_words) taken block_words tail_words
              r.factor stores
              factor_below (taking_room taken rounded) tail_there (taking_none taken rounded)
              (taking_fits taken rounded))
              (words_lower p prime M.tail tail' L shift (slot_words * q + block_words) taken block_words tail_words
              r.factor stores
              factor_below (taking_room taken rounded) tail_there (taking_none taken rounded)
              (taking_fits taken rounded));
          size = refl;
        };
        trace = step start made;
      }

    pub taking_stepped : Stepped p M M'
    taking_stepped = record {
      moved = record { valid = taken_valid; leads = reached };
      falls = omega (arith, T.fewer);
      short = λ q h. omega (arith, T.fewer, fits.short q h);
    }
