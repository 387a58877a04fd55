-- An exchange of the hand with the slot at its pivot: memory stays in order, and where the slot is filled it is an `Exchange` of
-- `reduction`.
use Prim.Native.Nat.{ℕ, ◌+◌, ◌*◌, ◌%◌, ◌<◌}
use mathlib.Core.Path.{◌≡◌, refl, sym, ◌∙◌, ap}
use mathlib.Core.List.{List}
use native.Mathlib.Omega.{arith}
use lib.ListN.{length, get_or}
use Rattle.algebra.specs.Coefficients.{leading}
use Rattle.algebra.specs.Polynomial.{Polynomial}
use Rattle.algebra.specs.Size.{sized}
use Rattle.modular.specs.Prime.{Prime}
use Rattle.modular.specs.Modulo.{modulo}
use Rattle.modular.specs.Residue.{residues}
use Rattle.vector.specs.Stored.{stored, length_stored}
use Rattle.vector.specs.Reduced.{polynomial}
use Rattle.reduction.specs.Total.{total_change}
use Rattle.reduction.specs.Replace.{replace_here}
use Rattle.reduction.specs.Pivot.{Pivot}
use Rattle.reduction.specs.Slots.{put, put_here, put_same}
use Rattle.reduction.specs.Trace.{State, Exchange, start, exchange}
use Rattle.solve_lattice.specs.Room.{product_words, block_words, slot_words, tail_words, lanes}
use Rattle.solve_lattice.specs.Memory.{row, height, Ends, Level, slot_size, tail_size, Sums, ValidSlot, Memory, memory, places}
use Rattle.solve_lattice.specs.Memory.{ValidHand}
use Rattle.solve_lattice.specs.Noted.{noted}
use Rattle.solve_lattice.specs.Holding.{HoldsState, Reached}
use Rattle.solve_lattice.specs.Range.{zero_from_same, ends_same, ends_unique}
use Rattle.solve_lattice.specs.Found.{found_ends, found_leading}
use Rattle.solve_lattice.specs.Sums.{sums_stored}
use Rattle.solve_lattice.specs.Reading.{held_same, holds_pivot}
use Rattle.solve_lattice.specs.Moves.{Swapped}
use Rattle.solve_lattice.proofs.SwappedWords.{Swap, block', slots₁, tail', slots₂, level'}
use Rattle.solve_lattice.proofs.SwappedWords
use Rattle.solve_lattice.proofs.SwappedLevel

module _ {p : ℕ} (prime₀ : Prime p) {M : Memory} {t e m : ℕ} (E : Swap p M t e m) where
  abbrev q : ℕ
  q = row M.hand.size

  abbrev L : Level
  L = M.level

  positive : 0 < p
  positive = omega (arith, prime₀.large)

  slot : ValidSlot p M.level (row M.hand.size)
  slot = SwappedWords.slot E

  -- the slot's block is now the hand's, and `find_leading` finds its size and its leading word
  known : Ends p (block' M e) 0 product_words (slot_size L q)
  known = ends_same p prime₀ L (block' M e) (slot_words * q) 0 block_words product_words (λ x. sym (SwappedWords.block_out E prime₀ x))
      (slot_size L q) (omega (arith, slot.block.within)) slot.block

  module _ (f v : ℕ) (found : f ≡ length (polynomial p (block' M e) 0 (slot_size M.level (row M.hand.size))))
      (found_value : v ≡ leading (modulo p) (polynomial p (block' M e) 0 (slot_size M.level (row M.hand.size)))) where
    abbrev M' : Memory
    M' = memory (level' p M t e m) (block' M e) (tail' p M e m)
        (record { size = f; leading = v; tail_size = tail_size M.level (row M.hand.size) })

    ends : Ends p (block' M e) 0 product_words f
    ends = found_ends p positive (block' M e) product_words (slot_size L q) known.within known.behind f found

    hand_size : f ≡ slot_size L q
    hand_size = ends_unique (block' M e) 0 product_words f (slot_size L q) ends known

    -- an exchange keeps the places
    same_places : places M' ≡ places M
    same_places = omega (
      arith,
      total_change lanes q (slot_size (level' p M t e m)) (slot_size L) (omega arith) (SwappedLevel.size_other prime₀ E),
      SwappedLevel.size_here prime₀ E,
      hand_size,
    )

    sums_kept : (g : ℕ → ℕ) (w : List ℕ) (n : ℕ) → ((j : ℕ) → j < n → g j < p) → Sums p (places M) w
        → Sums p (places M') (stored g w 0 n)
    sums_kept g w n small sums = rw same_places (sums_stored p w g 0 n (places M) (λ j lt. omega (arith, small j lt)) sums)

    same_length : length (block' M e) ≡ length M.block
    same_length = length_stored (λ j. get_or L (slot_words * q + j) 0) M.block 0 e

    hand_valid : ValidHand p M'
    hand_valid = record {
      room = omega (arith, E.valid.hand.room, same_length);
      degrees = omega (arith, E.valid.hand.room, same_length, hand_size, slot.block.within);
      tail_room = omega (
        arith,
        E.valid.hand.tail_room,
        length_stored (λ j. get_or (slots₁ p M e) (slot_words * q + block_words + j) 0) M.tail 0 m,
      );
      block = ends;
      leading = found_leading p positive (block' M e) product_words (slot_size L q) known.within known.behind f found v
          found_value;
      tail_within = omega (arith, slot.tail_within);
      tail = zero_from_same p prime₀ L (tail' p M e m) (slot_words * q + block_words) 0 block_words tail_words
          (λ x. sym (SwappedWords.tail_out E prime₀ x)) (tail_size L q) slot.tail;
      sums = sums_kept (λ j. get_or L (slot_words * q + j) 0) M.block e
          (λ j lt. E.valid.level.below (slot_words * q + j) (omega (arith, SwappedWords.blocks_fit E)))
          E.valid.hand.sums;
      tail_sums = sums_kept (λ j. get_or (slots₁ p M e) (slot_words * q + block_words + j) 0) M.tail m
          (λ j lt. SwappedLevel.below₁ prime₀ E (slot_words * q + block_words + j) (omega (arith, SwappedWords.tails_fit E)))
          E.valid.hand.tail_sums;
    }

    module _ (prime : Prime p) (n : ℕ) (ω : ℕ → ℕ) (s : State (Polynomial (residues p prime))) (holds : HoldsState p prime n ω M s)
        (some : 0 < slot_size M.level (row M.hand.size)) where
      P : Pivot (sized (residues p prime)) n ω s.hand (row M.hand.size) s.size
      P = holds_pivot p prime E.valid.hand holds E.room.some

      length_slot : s.slots.size (row M.hand.size) ≡ height (slot_size M.level (row M.hand.size))
      length_slot = holds.slots.size (row M.hand.size) P.inside

      filled : 0 < s.slots.size (row M.hand.size)
      filled = omega (arith, length_slot)

      abbrev after : State (Polynomial (residues p prime))
      after = record {
        slots = put s.slots (row M.hand.size) s.hand s.size;
        hand = s.slots.at (row M.hand.size);
        size = s.slots.size (row M.hand.size);
      }

      put_size : after.slots.size (row M.hand.size) ≡ s.size
      put_size = replace_here s.slots.size (row M.hand.size) s.size

      made : Exchange (sized (residues p prime)) n ω s after
      made = record {
        swap = record {
          at = row M.hand.size;
          filled = filled;
          filled' = omega (arith, put_size, holds.size, E.room.some);
          others = put_same s.slots (row M.hand.size) s.hand s.size P.inside;
          put = λ i h. put_here s.slots (row M.hand.size) s.hand s.size i;
          hand = λ i h. refl;
        };
        pivot = P;
        put_size = put_size;
        size = refl;
      }

      reached : Reached p prime n ω s M'
      reached = record {
        now = after;
        holds = record {
          slots = SwappedLevel.level_holds prime₀ E prime n ω s holds;
          hand = held_same (λ x. sym (SwappedWords.block_out E prime x)) (λ x. sym (SwappedWords.tail_out E prime x))
              (holds.slots.vector (row M.hand.size) P.inside filled);
          size = length_slot ∙ ap height (sym hand_size);
        };
        trace = exchange start made;
      }

    swapped : Swapped p M M'
    swapped = record {
      valid = record { level = SwappedLevel.level_valid prime₀ E; hand = hand_valid };
      places_kept = same_places;
      hand_size = hand_size;
      slot_size_lem = SwappedLevel.size_here prime₀ E;
      put = SwappedLevel.level_holds prime₀ E;
      leads = λ some prime n ω s holds. reached prime n ω s holds some;
    }

  -- as the stores leave it
  pub swapping : (b s₁ τ s₂ : List ℕ) (i f v : ℕ) → b ≡ block' M e → s₁ ≡ slots₁ p M e
      → τ ≡ stored (λ j. get_or s₁ (slot_words * row M.hand.size + block_words + j) 0) M.tail 0 m
      → s₂ ≡ stored (λ j. get_or M.tail j 0 % p) s₁ (slot_words * row M.hand.size + block_words) m
      → i ≡ (modulo p).inverse M.hand.leading
      → f ≡ length (polynomial p b 0 (slot_size M.level (row M.hand.size)))
      → v ≡ leading (modulo p) (polynomial p b 0 (slot_size M.level (row M.hand.size)))
      → Swapped p M (memory
      (noted s₂ (row M.hand.size) M.hand.size t i) b τ
      (record { size = f; leading = v; tail_size = tail_size M.level (row M.hand.size) }))
  swapping b s₁ τ s₂ i f v eb e₁ et e₂ ei ef ev = rw (eb, tails, slots, ei) (swapped f v (rw eb at ef) (rw eb at ev))
    where
      tails : τ ≡ tail' p M e m
      tails = et ∙ ap (λ (w : List ℕ). stored (λ j. get_or w (slot_words * q + block_words + j) 0) M.tail 0 m) e₁

      slots : s₂ ≡ slots₂ p M e m
      slots = e₂ ∙ ap (λ (w : List ℕ). stored (λ j. get_or M.tail j 0 % p) w (slot_words * q + block_words) m) e₁
