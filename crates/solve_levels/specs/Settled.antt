-- What becomes of the hand after an insertion. Stuck: it is among the slots, and the kernel is 0. Block zero: the slots stay, and
-- the kernel is its tail.
use Rattle.std.specs.Prelude.{ℕ, ◌+◌, ◌%◌, ◌<◌, ◌≤◌, ◌≡◌, refl, List, length, get_or}
use Rattle.std.proofs.Common.{sym, ◌∙◌, ap, zero-add, mod-lt, arith}
use Rattle.std.proofs.Math.Nat.{zero-mod}
use Rattle.solve_lattice.specs.Room.{block_words, tail_words, most_coefficients}
use Rattle.algebra.specs.Polynomial.{Polynomial}
use Rattle.modular.specs.Prime.{Prime}
use Rattle.modular.specs.Residue.{residues}
use Rattle.vector.specs.Stored.{stored, length_stored, stored_inside}
use Rattle.vector.specs.Reduced.{polynomial}
use Rattle.reduction.specs.Slots.{put}
use Rattle.reduction.specs.Trace.{State}
use Rattle.solve_lattice.specs.Word.{words}
use Rattle.solve_lattice.specs.Memory.{row, ZeroFrom, Ends, Level, slot_size, ValidLevel, Memory, Valid}
use Rattle.solve_lattice.specs.Holding.{HoldsSlots, HoldsState}
use Rattle.solve_lattice.specs.Found.{found_within, found_ends}
use Rattle.solve_lattice.specs.Moves.{HasRoom, Swapped}
use Rattle.solve_lattice.specs.Range.{words_slot, ends_same}

-- an insertion has stopped, and what it left has room
pub record InsertionStopped (p : ℕ) (M : Memory) : Type 0 where
  pub stops : 0 < M.hand.size → slot_size M.level (row M.hand.size) ≡ 0
  pub block : M.hand.size ≤ block_words
  pub tail : ZeroFrom p M.tail 0 tail_words most_coefficients

pub stopped_room : {p : ℕ} {M : Memory} → InsertionStopped p M → 0 < M.hand.size → HasRoom p M
stopped_room stopped some = record { some = some; block = stopped.block; tail = stopped.tail }

pub record Settled (p : ℕ) (M : Memory) (L : Level) (kernel : List ℕ) (size : ℕ) : Type 0 where
  pub valid : ValidLevel p L
  pub kernel_room : length kernel ≡ block_words
  pub kernel_below : (j : ℕ) → j < block_words → get_or kernel j 0 < p
  pub kernel_ends : Ends p kernel 0 block_words size
  pub stuck : 0 < M.hand.size → (size ≡ 0) × ((prime : Prime p) (n : ℕ) (ω : ℕ → ℕ) (s : State (Polynomial (residues p prime)))
      → HoldsState p prime n ω M s → HoldsSlots p prime n ω L (put s.slots (row M.hand.size) s.hand s.size))
  pub vanished : M.hand.size ≡ 0
      → (L ≡ M.level) × ((prime : Prime p) (x : ℕ) → words p prime kernel 0 block_words x ≡ words p prime M.tail 0 tail_words x)

module _ {p : ℕ} (prime₀ : Prime p) {M : Memory} (valid : Valid p M) (stopped : InsertionStopped p M) (kernel : List ℕ)
    (room : length kernel ≡ block_words) where
  positive : 0 < p
  positive = let large = prime₀.large in omega arith

  -- the hand fills the slot
  pub settled_stuck : (some : 0 < M.hand.size) {M' : Memory} → Swapped p M M' → (k : List ℕ)
      → k ≡ stored (λ j. 0) kernel 0 block_words
      → Settled p M M'.level k 0
  settled_stuck some S k e = record {
    valid = S.valid.level;
    kernel_room = ap length e ∙ length_stored (λ j. 0) kernel 0 block_words ∙ room;
    kernel_below = λ j lt. omega (arith, ap (λ i. get_or k i 0) (zero-add j), zero j lt, positive);
    kernel_ends = record {
      within = omega arith;
      last = λ f. absurd (omega arith);
      behind = λ j h lt. ap (λ w. w % p) (zero j lt) ∙ zero-mod p;
    };
    stuck = λ f. (refl, S.put);
    vanished = λ none. absurd (omega arith);
  }
    where
      zero : (j : ℕ) → j < block_words → get_or k (0 + j) 0 ≡ 0
      zero j lt = ap (λ w. get_or w (0 + j) 0) e ∙ stored_inside (λ j. 0) kernel 0 block_words j (omega arith) lt

  -- the tail, reduced, is the kernel
  pub settled_vanished : M.hand.size ≡ 0 → (size : ℕ) → size ≡ length (polynomial p M.tail 0 block_words) → (k : List ℕ)
      → k ≡ stored (λ j. get_or M.tail j 0 % p) kernel 0 block_words → Settled p M M.level k size
  settled_vanished none size found k e = record {
    valid = valid.level;
    kernel_room = ap length e ∙ length_stored (λ j. get_or M.tail j 0 % p) kernel 0 block_words ∙ room;
    kernel_below = λ j lt. omega (arith, ap (λ i. get_or k i 0) (zero-add j), word j lt, mod-lt (get_or M.tail j 0) positive);
    kernel_ends = ends_same p prime₀ M.tail k 0 0 tail_words block_words (λ x. sym (same prime₀ x)) size within ends;
    stuck = λ f. absurd (omega arith);
    vanished = λ n. (refl, same);
  }
    where
      behind : ZeroFrom p M.tail 0 tail_words block_words
      behind j h lt = stopped.tail j (omega arith) lt

      within : size ≤ block_words
      within = found_within p positive M.tail tail_words block_words (omega arith) behind size found

      ends : Ends p M.tail 0 tail_words size
      ends = found_ends p positive M.tail tail_words block_words (omega arith) behind size found

      same : (prime : Prime p) (x : ℕ) → words p prime k 0 block_words x ≡ words p prime M.tail 0 tail_words x
      same prime x = ap (λ w. words p prime w 0 block_words x) e
          ∙ words_slot p prime M.tail kernel 0 block_words block_words tail_words (omega arith) (omega arith)
          (omega (arith, valid.hand.tail_room)) (omega arith) behind (λ j h lt. absurd (omega arith)) x

      word : (j : ℕ) → j < block_words → get_or k (0 + j) 0 ≡ get_or M.tail j 0 % p
      word j lt = ap (λ w. get_or w (0 + j) 0) e ∙ stored_inside (λ j. get_or M.tail j 0 % p) kernel 0 block_words j (omega arith) lt
