-- A level with the blocks of another and other tails holds the slots with these tails.
use Rattle.std.specs.Prelude.{ℕ, ◌+◌, ◌*◌, ◌<◌, ◌≤◌}
use Rattle.std.proofs.Common.{sym, ◌∙◌, ap, arith}
use Rattle.algebra.specs.Polynomial.{Polynomial}
use Rattle.modular.specs.Prime.{Prime}
use Rattle.modular.specs.Residue.{residues}
use Rattle.reduction.specs.Slots.{Slots, unweighted, tailed}
use Rattle.reduction.specs.Holds.{Holds}
use Rattle.solve_lattice.specs.Room.{lanes, block_words, slot_words}
use Rattle.solve_lattice.specs.Word.{words}
use Rattle.solve_lattice.specs.Memory.{height, Level}
use Rattle.solve_lattice.specs.Holding.{HoldsSlots}
use Rattle.solve_lattice.specs.SameBlocks.{SameLevelBlocks, held_extend, same_flat}

pub same_holds : {p : ℕ} {L L' : Level} → SameLevelBlocks L L' → (prime : Prime p) {n : ℕ}
    {U : Slots (Polynomial (residues p prime))} → n ≤ lanes → HoldsSlots p prime n unweighted L U
    → (g : ℕ → Polynomial (residues p prime))
    → ((q : ℕ) → q < n → 0 < U.size q
    → Holds (residues p prime) (words p prime L' (slot_words * q + block_words) block_words) (g q))
    → HoldsSlots p prime n unweighted L' (tailed n U g)
same_holds same prime small holds g tails = record {
  size = λ q l. holds.size q l ∙ ap height (sym (same.sizes q (omega arith)));
  vector = λ q l f. held_extend (same_flat same prime q (omega arith) (holds.vector q l f).block) (tails q l f);
}
