-- What was certified is written (`Writing`).
use mathlib.Core.Path.{refl}
use native.Mathlib.Omega.{arith}
use Rattle.vector.specs.Bound.{zeros_none}
use Rattle.solve_lattice.specs.Room.{output_words}
use Rattle.solver.specs.OutputLaws.{taken_wrote}
use Rattle.solver.proofs.CertifiedWords.{read_shape}
use Rattle.solver.proofs.Writing.{output_valid, gives}
use Rattle.solver.proofs.solve_read.Goals as goal

pub certify_words-solved-requires-clause-cleared :
    goal.certify_words-solved-requires-clause-cleared
certify_words-solved-requires-clause-cleared c = (refl, zeros_none output_words)

pub write_output-requires : goal.write_output-requires
write_output-requires c =
    let shape = read_shape c.requires.0 in
    let small = shape.modulus in
    let valid = output_valid c.requires.0 _ _ c.certify_words-solved.ensures in
    (shape.rows.1, shape.columns.1, λ i. let b = valid.below i in omega arith, c.requires.1)

pub returns : goal.returns
returns c =
    let certified = c.certify_words-solved.ensures in
    gives c.requires.0 _ _ certified c.form_for.ensures _ _ _
    (taken_wrote _ _ (output_valid c.requires.0 _ _ certified) _ c.write_output.ensures)
