use Rattle.std.proofs.Common.{◌≡◌, ◌%◌, refl, ap, ◌∙◌, arith, rules, tests}
use Rattle.std.proofs.lemmas.Iterator.{cases_from_all, YieldsList-from_range}
use Rattle.std.proofs.lemmas.Iterator.Search.{YieldsList-from_take_while}
use Rattle.modular.specs.Prime.{prime?}
use Rattle.residue.proofs.Trial.{in_root, trial_division}
use Rattle.residue.proofs.prime.is_prime.Goals as goal

pub returns-then-n-gt1 : goal.returns-then-n-gt1
returns-then-n-gt1 c =
    let n = c.from-n.result in
    trial_division n (omega arith) _
    (cases_from_all _ _ _ (λ d. n % d ≡ 0 → ⊥) (λ d. n % d ≡ 0) c.all.ensures.ran
    (YieldsList-from_take_while _ (in_root n) (YieldsList-from_range 2 n _ c.take_while.ensures.source refl) c.take_while.ensures.closure c.take_while.ensures.done (λ x b q k. search (rules, tests)))
    (λ x q k. search (rules, tests)) (λ x q k. search (rules, tests)))
    ∙ ap prime? c.from-n.ensures
