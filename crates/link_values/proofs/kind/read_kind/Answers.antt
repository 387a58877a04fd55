-- What is told of the words that are left is told of the files.
use mathlib.Core.Path.{sym, ap, ◌∙◌}
use native.Mathlib.Omega.{arith}
use Rattle.std.proofs.lemmas.Result.{err_from_is_err_and}
use Rattle.link_values.specs.Files.{kind_of}
use Rattle.link_values.proofs.Opens.{none_opened, both_opened}
use Rattle.link_values.proofs.kind.read_kind.Goals as goal

pub returns-in_err-n : goal.returns-in_err-n
returns-in_err-n c =
    let p = err_from_is_err_and c.from_residual.result c.from_residual.ensures.1 in
    rw (p.1, p.2) (sym (ap kind_of (none_opened _ _ c.in_err-n.ensures)))

pub returns : goal.returns
returns c =
    c.kind_of_words.ensures ∙ sym (ap kind_of (both_opened _ _ c.in_ok-n.ensures (omega arith) (omega arith)))
