-- `reader::kept::certificate_exceeds` meets its contract.
use Rattle.std.proofs.Common.{ap₂, ◌∙◌, sym, subst, ℕ}
use Rattle.limits.specs.Value.{limits_of}
use Rattle.words.specs.Limits.{office}
use Rattle.words.specs.Starts.{first_entries, HasEntries}
use Rattle.words.specs.Kept.{longer?}
use Rattle.answers.specs.Answer.{shape_of, form_of}
use Rattle.reader.proofs.KeptSteps.{certificate_has, certificate_told}
use Rattle.reader.proofs.kept.certificate_exceeds.Goals as goal

pub some_longer-requires : goal.some_longer-requires
some_longer-requires c =
    subst (λ (n : ℕ). HasEntries office.certificate_coefficients n c.args.words.now) (sym c.entry_count-count.ensures)
    (certificate_has (limits_of c.args.kept) _ (shape_of c.args.shape) (form_of c.args.form) c.requires.form_value c.requires.shape.0)

pub returns : goal.returns
returns c =
    certificate_told (limits_of c.args.kept) _ (shape_of c.args.shape) (form_of c.args.form) c.requires.form_value
    c.requires.shape.0 c.requires.shape.1
    (c.some_longer.ensures
    ∙ ap₂ (λ (most n : ℕ). longer? most (first_entries c.args.words.now n)) c.from.ensures c.entry_count-count.ensures)
