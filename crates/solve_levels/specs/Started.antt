-- A column beside a copy of a level with tails 0: an insertion can start, in the state in which `reduction` begins it.
use Rattle.std.specs.Prelude.{ℕ, ◌≤◌, ◌≡◌, List, length, set}
use Rattle.std.proofs.Common.{sym, subst}
use Rattle.algebra.specs.Polynomial.{Polynomial, polynomials}
use Rattle.modular.specs.Prime.{Prime}
use Rattle.modular.specs.Residue.{residues}
use Rattle.vector.specs.Bound.{AtMost}
use Rattle.reduction.specs.Slots.{Slots, unweighted}
use Rattle.reduction.specs.Inserting.{begin}
use Rattle.reduction.specs.Flat.{Flat}
use Rattle.solve_lattice.specs.Word.{words}
use Rattle.solve_lattice.specs.declared.hand.Hand.{Hand}
use Rattle.solve_lattice.specs.Memory.{height, Level, ValidLevel, Memory, memory, Valid}
use Rattle.solve_lattice.specs.Holding.{HoldsSlots, HoldsState}
use Rattle.solve_lattice.specs.Insertion.{Starts}
use Rattle.solve_lattice.specs.Room.{block_words, tail_words, lanes}
use Rattle.solve_levels.specs.Copied.{Copied}
use Rattle.solve_levels.specs.Cleared.{Copies, copied_copies, copies_valid, copies_holds}
use Rattle.solve_levels.specs.Begun.{ValidColumn, begun, begun_valid, begun_starts, begun_holds}

-- M is what is ready for the column in its block
pub record Started (p : ℕ) (L : Level) (M : Memory) : Type 0 where
  pub valid : Valid p M
  pub starts : Starts p M
  pub low : M.hand.size ≤ block_words
  pub holds : (prime : Prime p) (n : ℕ) (U : Slots (Polynomial (residues p prime))) (a : ℕ → Polynomial (residues p prime))
      → HoldsSlots p prime n unweighted L U → Flat (residues p prime) n lanes unweighted (words p prime M.block 0 block_words) a
      → HoldsState p prime n unweighted M (begin (polynomials (residues p prime)) n U a (height M.hand.size))

-- the level copied, and the hand laid
pub started : {p : ℕ} → Prime p → {L L' : Level} → ValidLevel p L → Copied L lanes L' → {column : List ℕ} {size : ℕ}
    → ValidColumn p column size → (tail : List ℕ) → length tail ≡ tail_words → AtMost 0 tail → {tail' : List ℕ} {hand : Hand}
    → (tail' ≡ set tail 0 1) × (hand ≡ begun p column size) → Started p L (memory L' column tail' hand)
started {p} prime₀ {L} {L'} level copied {column} {size} valid tail room none {tail'} {hand} (et, eh) =
    subst (λ w. Started p L (memory L' column w hand)) (sym et)
    (subst (λ h. Started p L (memory L' column (set tail 0 1) h)) (sym eh) laid)
  where
    copies : Copies p L L'
    copies = copied_copies level copied

    laid : Started p L (memory L' column (set tail 0 1) (begun p column size))
    laid = record {
      valid = record {
        level = copies_valid copies level;
        hand = begun_valid prime₀ valid tail room none (copies_valid copies level);
      };
      starts = begun_starts prime₀ valid tail room none copies.tail_sizes;
      low = valid.ends.within;
      holds = λ prime n U v holds A. begun_holds prime₀ valid tail room none prime n unweighted U v
          (copies_holds copies prime n unweighted U A.lanes holds) A;
    }
