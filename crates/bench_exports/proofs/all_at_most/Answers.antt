use Rattle.std.proofs.Common.{leb, ◌∙◌, rules, tests}
use Rattle.std.proofs.lemmas.Iterator.{YieldsList-from_slice}
use Rattle.std.proofs.lemmas.Iterator.Search.{all_from_yields_List}
use Rattle.bench_exports.proofs.Tests.{all_is}
use Rattle.bench_exports.proofs.all_at_most.Goals as goal

pub returns : goal.returns
returns c =
    all_from_yields_List (λ x. leb x c.args.limit) _ _ _ c.all.ensures.ran (YieldsList-from_slice c.args.l.now c.iter.ensures.rest) (λ x b q k. search (rules, tests))
    ∙ all_is c.args.limit c.args.l.now
