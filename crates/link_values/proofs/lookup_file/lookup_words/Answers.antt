-- The words that are shown, or why there are none (`Looking`).
use native.Mathlib.Omega.{arith}
use borrow.Author.Rules.{rules}
use Rattle.std.proofs.lemmas.Result.{err_from_is_err_and}
use Rattle.lookup.specs.Answer.{of_asked}
use Rattle.link_values.specs.GivingLaws.{gives_refusal}
use Rattle.link_values.proofs.Looking.{sought_refused, none_shown, some_shown, gives_found}
use Rattle.link_values.proofs.lookup_file.lookup_words.Goals as goal

pub returns-in_err-lookup_refusal : goal.returns-in_err-lookup_refusal
returns-in_err-lookup_refusal c =
    let p = err_from_is_err_and c.from_residual.result c.from_residual.ensures.1 in
    rw (p.1, p.2)
    (gives_refusal
    (sought_refused _ _ (of_asked c.args.of) c.args.number _ c.limits-then-is_empty.ensures c.in_err-lookup_refusal.ensures) _)

pub returns-then-is_empty : goal.returns-then-is_empty
returns-then-is_empty c =
    absurd (none_shown _ _ _ _ _ c.limits.ensures c.lookup-words.ensures.same_words (search rules)
    _ c.limits-then-is_empty.ensures c.in_ok-lookup_refusal.ensures)

pub copy_payloads-requires : goal.copy_payloads-requires
copy_payloads-requires c =
    let F = some_shown _ _ _ _ _ c.limits.ensures c.lookup-words.ensures.same_words (search rules) in
    (omega (arith, F.size, F.few), omega (arith, F.size))

pub returns : goal.returns
returns c =
    gives_found _ _ _ _ (some_shown _ _ _ _ _ c.limits.ensures c.lookup-words.ensures.same_words (search rules))
    _ _ (omega arith) (omega arith) c.copy_payloads.ensures
