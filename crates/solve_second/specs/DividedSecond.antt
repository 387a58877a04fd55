-- A block divided by the transposed slots of a level.
use Rattle.std.specs.Prelude.{ℕ, ◌≤◌, List}
use Rattle.std.proofs.Common.{arith}
use Rattle.algebra.specs.Polynomial.{Polynomial, polynomials}
use Rattle.modular.specs.Prime.{Prime}
use Rattle.modular.specs.Residue.{residues}
use Rattle.reduction.specs.Slots.{Slots, unweighted}
use Rattle.reduction.specs.Inserting.{cleared}
use Rattle.reduction.specs.Transpose.{transposed, weights}
use Rattle.solve_lattice.specs.Memory.{Level, ValidLevel}
use Rattle.solve_lattice.specs.Holding.{HoldsSlots}
use Rattle.solve_lattice.specs.Quotients.{BlockDivided}
use Rattle.solve_second.specs.Greatest.{greatest}
use Rattle.solve_second.specs.Transposed.{transposed_slots}
use Rattle.solve_second.specs.ValidTransposed.{transposed_valid}
use Rattle.solve_second.specs.Laid.{SecondLaid}
use Rattle.solve_lattice.specs.Room.{lanes}

pub record DividedSecond (p n : ℕ) (L : Level) (block quotients : List ℕ) : Type 0 where
  pub slots : Level
  pub rest : List ℕ
  pub left : ℕ
  pub divided : BlockDivided p slots block rest quotients left
  pub holds : (prime : Prime p) (U : Slots (Polynomial (residues p prime))) → HoldsSlots p prime n unweighted L U
      → HoldsSlots p prime n (weights (polynomials (residues p prime)) n (greatest L n) U) slots
      (cleared (polynomials (residues p prime)) n (transposed (polynomials (residues p prime)) n (greatest L n) U))

module _ {p n : ℕ} (small : n ≤ lanes) {L : Level} (valid : ValidLevel p L) {T : Level} {b : List ℕ} (laid : SecondLaid n L T b)
  where
    pub laid_valid : ValidLevel p T
    laid_valid = transposed_valid p (omega (arith, valid.below 0 (omega arith))) small valid laid.slots

    pub laid_divided : {block rest quotients : List ℕ} {left : ℕ} → BlockDivided p T block rest quotients left
        → DividedSecond p n L block quotients
    laid_divided {block} {rest} {quotients} {left} done = record {
      slots = T;
      rest = rest;
      left = left;
      divided = done;
      holds = λ prime U holds. transposed_slots p prime small valid holds laid.slots;
    }
