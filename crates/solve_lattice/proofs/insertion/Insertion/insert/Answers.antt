use mathlib.Core.Path.{refl, sym, ◌∙◌, subst}
use native.Mathlib.Nat.{pos_of_ne-zero}
use native.Mathlib.Omega.{arith}
use Rattle.residue.specs.declared.modulus.Modulus.{Modulus}
use Rattle.solve_lattice.specs.Moves.{GoesOn, Stepped}
use Rattle.solve_lattice.specs.References.{memory_of}
use Rattle.solve_lattice.proofs.Inserting.{inserting_start, inserting_turn, inserting_on, inserting_end}
use Rattle.solve_lattice.proofs.insertion.Insertion.insert.Goals as goal

pub loop-self-init : goal.loop-self-init
loop-self-init c = (
  inserting_start c.args.self.now.valid c.requires.starts,
  record { level = refl; block = refl; tail = refl; modulus = refl; long = refl },
)

pub returns-then-self-q-eq0-clause-inserts : goal.returns-then-self-q-eq0-clause-inserts
returns-then-self-q-eq0-clause-inserts c =
    let given = c.requires in
    inserting_end c.args.self.now.modulus.valid.prime c.args.self.now.valid given.starts c.loop-self.invariant.0
    (λ some. rw c.pivot_row-q.ensures at c.if-self-q-eq0.true)

pub turn-requires : goal.turn-requires
turn-requires c =
    let given = c.requires in
    let P : Modulus → Type 0 = λ m. GoesOn m.p (memory_of c.loop-self.self) in
    record {
      filled = subst P (sym c.loop-self.invariant.1.modulus)
          (inserting_on c.args.self.now.modulus.valid.prime c.args.self.now.valid given.starts c.loop-self.invariant.0 c.loop-self-test.true
          (pos_of_ne-zero (rw c.pivot_row-q.ensures at c.if-self-q-eq0.false)));
    }

pub loop-self-preserved : goal.loop-self-preserved
loop-self-preserved c =
    let I = c.loop-self.invariant in
    let same = c.turn.ensures.same in
    let P : Modulus → Type 0 = λ m. Stepped m.p (memory_of c.loop-self.self) (memory_of c.turn.new.self) in (
      inserting_turn I.0 same.long (subst P I.1.modulus c.turn.ensures.stepped),
      record {
        level = same.level ∙ I.1.level;
        block = same.block ∙ I.1.block;
        tail = same.tail ∙ I.1.tail;
        modulus = same.modulus ∙ I.1.modulus;
        long = same.long ∙ I.1.long;
      },
    )

pub returns-clause-inserts : goal.returns-clause-inserts
returns-clause-inserts c =
    let given = c.requires in
    inserting_end c.args.self.now.modulus.valid.prime c.args.self.now.valid given.starts c.loop-self.invariant.0
    (λ some. absurd (omega arith))
