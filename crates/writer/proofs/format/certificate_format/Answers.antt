-- Each arm makes the format of its kind of certificate.
use mathlib.Core.Path.{sym, ap}
use Rattle.words.specs.Limits.{office}
use Rattle.words.specs.Certificate.{entry_count, form_word}
use Rattle.answers.specs.declared.shape.Form.{Form}
use Rattle.answers.specs.Answer.{form_of}
use Rattle.writer.specs.Values.{shape_with}
use Rattle.writer.specs.Formats.{certificate_frame}
use Rattle.writer.proofs.format.certificate_format.Goals as goal

pub returns-in-Solution : goal.returns-in-Solution
unfolding entry_count form_word
returns-in-Solution c p =
    let a = c.args in
    ap (λ (f : Form). certificate_frame office (shape_with p a.rows a.columns) (form_of f)) (sym c.in-Solution.is)

pub returns-in-Absence : goal.returns-in-Absence
unfolding entry_count form_word
returns-in-Absence c p =
    let a = c.args in
    ap (λ (f : Form). certificate_frame office (shape_with p a.rows a.columns) (form_of f)) (sym c.in-Absence.is)
