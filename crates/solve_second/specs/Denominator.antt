-- The tail with which the insertion of the right side ends, made monic: the denominator w of the second system's solution.
use Rattle.std.specs.Prelude.{ℕ, ◌<◌, ◌≤◌, ◌≡◌, List, length, get_or}
use Rattle.std.proofs.Common.{arith}
use Rattle.algebra.specs.Coefficients.{leading}
use Rattle.algebra.specs.Polynomial.{Polynomial, polynomials}
use Rattle.algebra.specs.Size.{size, sized}
use Rattle.modular.specs.Modulo.{modulo}
use Rattle.modular.specs.Prime.{Prime}
use Rattle.modular.specs.Residue.{residues}
use Rattle.reduction.specs.Slots.{Slots, unweighted}
use Rattle.reduction.specs.Transpose.{Tops}
use Rattle.reduction.specs.Second.{second_positive}
use Rattle.reduction.specs.Polynomials.{associate}
use Rattle.reduction.specs.Holds.{Holds}
use Rattle.vector.specs.Reduced.{polynomial}
use Rattle.vector.specs.declared.leading.Leading.{Leading}
use Rattle.solve_lattice.specs.Word.{words}
use Rattle.solve_lattice.specs.Memory.{Ends, Sums, Level, ValidLevel, Memory, places, Valid}
use Rattle.solve_lattice.specs.Sums.{sums_fewer}
use Rattle.solve_lattice.specs.Holding.{HoldsSlots}
use Rattle.solve_lattice.specs.Insertion.{Inserts}
use Rattle.solve_lattice.specs.Room.{product_words, block_words, lanes}
use Rattle.solve_second.specs.Monic.{MadeMonic}
use Rattle.solve_second.specs.Greatest.{greatest}
use Rattle.solve_second.specs.SideInserted.{InsertedSide, SideInserted, second_side_inserted}
use Rattle.solve_second.specs.Laid.{SecondLaid, starting_memory}

-- w, of so many coefficients, is the tail with which an insertion that begins with memory M ends, made monic
pub record TailFound (p : ℕ) (M : Memory) (w : List ℕ) (count : ℕ) : Type 0 where
  pub after : Memory
  pub inserts : Inserts p M after
  pub monic : MadeMonic p after.tail w count

-- of slots U: how the insertion ended, and that w is its tail made monic
pub record FoundDenominator (p : ℕ) (prime : Prime p) (n D : ℕ) (U : Slots (Polynomial (residues p prime))) (w : List ℕ) : Type 0
  where
    pub memory : Memory
    pub inserted : InsertedSide p prime n D U memory
    pub some : 0 < size (residues p prime) (inserted.run.now.hand n)
    pub holds : Holds (residues p prime) (words p prime w 0 block_words)
        ((polynomials (residues p prime)).mul (associate (residues p prime) (inserted.run.now.hand n) some).unit
        (inserted.run.now.hand n))

-- w has so many coefficients
pub record DenominatorFound (p n : ℕ) (L : Level) (w : List ℕ) (count : ℕ) : Type 0 where
  pub room : length w ≡ block_words
  pub below : (i : ℕ) → get_or w i 0 < p
  pub ends : Ends p w 0 block_words count
  pub found : (prime : Prime p) (B : ℕ) (U : Slots (Polynomial (residues p prime))) → HoldsSlots p prime n unweighted L U
      → Tops (sized (residues p prime)) n B (greatest L n) U
      → FoundDenominator p prime n (greatest L n) U w

pub tail_reducible : {p : ℕ} {M : Memory} → Valid p M → Sums p 0 M.tail
tail_reducible {p} {M} valid = sums_fewer p M.tail (places M) 0 (omega arith) valid.hand.tail_sums

denominator_found : {p n : ℕ} {L : Level} {M : Memory} {w : List ℕ} {count : ℕ} → SideInserted p n L M
    → MadeMonic p M.tail w count → DenominatorFound p n L w count
denominator_found {p} {n} {L} {M} {w} {count} done made = record {
  room = made.room;
  below = made.below;
  ends = made.ends;
  found = λ prime B U holds tops.
      let I = done.inserted prime U holds in
      let some = second_positive tops I.run I.ends in
      record { memory = M; inserted = I; some = some; holds = made.holds prime (I.run.now.hand n) some I.holds.hand.tail };
}

-- w, where the second system is laid out and its right side inserted
pub laid_denominator : (p : ℕ) → Prime p → {n : ℕ} → n ≤ lanes → {L : Level} → ValidLevel p L → {T : Level} {b : List ℕ}
    → SecondLaid n L T b
    → (found : Leading) → found.size ≡ length (polynomial p b 0 product_words)
    → found.value ≡ leading (modulo p) (polynomial p b 0 product_words)
    → {w : List ℕ} {count : ℕ} → TailFound p (starting_memory T b found) w count → DenominatorFound p n L w count
laid_denominator p prime small valid laid found size last tail =
    denominator_found (second_side_inserted p prime small valid laid found size last tail.inserts) tail.monic
