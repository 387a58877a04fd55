-- What is told of the words that are left is told of the files.
use mathlib.Core.Path.{ap}
use native.Mathlib.Omega.{arith}
use Rattle.std.proofs.lemmas.Result.{err_from_is_err_and}
use Rattle.lookup.specs.Answer.{of_asked}
use Rattle.link_values.specs.Files.{lookup_of}
use Rattle.link_values.specs.GivingLaws.{gives_as, gives_refusal}
use Rattle.link_values.proofs.Opens.{none_opened, both_opened}
use Rattle.link_values.proofs.lookup_file.write_coefficients.Goals as goal

pub returns-in_err-n : goal.returns-in_err-n
returns-in_err-n c =
    let p = err_from_is_err_and c.from_residual.result c.from_residual.ensures.1 in
    rw (p.1, p.2)
    (gives_refusal (ap (lookup_of (of_asked c.args.of) c.args.number) (none_opened _ _ c.in_err-n.ensures)) _)

pub returns : goal.returns
returns c =
    gives_as
    (ap (lookup_of (of_asked c.args.of) c.args.number) (both_opened _ _ c.in_ok-n.ensures (omega arith) (omega arith)))
    c.lookup_words.ensures
