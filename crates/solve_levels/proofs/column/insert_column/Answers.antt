-- `insert_column` meets its contract: an insertion, and what becomes of its hand.
use mathlib.Core.Path.{subst}
use borrow.Author.Rules.{rules}
use Rattle.residue.specs.declared.modulus.Modulus.{Modulus}
use Rattle.solve_lattice.specs.Memory.{Level, memory}
use Rattle.solve_lattice.specs.References.{memory_of}
use Rattle.solve_levels.specs.Settled.{Settled}
use Rattle.solve_levels.specs.Linked.{AfterColumn, after_column}
use Rattle.solve_levels.proofs.column.insert_column.Goals as goal

pub returns : goal.returns
returns c =
    let A = c.args in
    let end = c.settle.new in
    let P : Modulus → Type 0 = λ m. Settled m.p (memory_of c.insert.new.self) end.work.level.now end.kernel c.settle.result in
    let Q : Level → Type 0 = λ l. AfterColumn A.modulus.p (memory A.level.now A.block.now A.tail.now A.hand) l end.kernel c.settle.result in
    subst Q (search rules) (after_column c.insert.ensures.inserts (subst P c.insert.ensures.same.modulus c.settle.ensures.settled))
