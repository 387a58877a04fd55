use Rattle.std.proofs.Common.{◌≡◌, ◌∙◌, sym, ap, arith, rules, ℕ, zero, suc, ◌+◌, max, unwrap_or}
use Rattle.std.proofs.lemmas.Iterator.{YieldsList-from_range, YieldsList-from_map}
use Rattle.std.proofs.lemmas.Iterator.Consumers.{reduce_from_yields_List}
use Rattle.std.proofs.lemmas.List.Folds.{max_of_map}
use Rattle.std.specs.List.{fold, range_with_len}
use Rattle.solve_lattice.specs.Memory.{height, Level, slot_size}
use Rattle.solve_second.specs.Greatest.{greatest, greatest_none, greatest_turn}
use Rattle.solve_second.proofs.height.greatest_height.Goals as goal

-- the greatest height is a fold over the slots
from_slot : (L : Level) (q n : ℕ)
    → fold (λ a x. max a (height (slot_size L x))) (greatest L q) (range_with_len q n) ≡ greatest L (q + n)
from_slot L q zero = ap (greatest L) (omega arith)
from_slot L q (suc n) =
    ap (λ a. fold (λ a x. max a (height (slot_size L x))) a (range_with_len (q + 1) n)) (sym (greatest_turn L q))
    ∙ from_slot L (q + 1) n ∙ ap (greatest L) (omega arith)

pub returns : goal.returns
returns c =
    let L = c.args.level.now in
    let h = λ (q : ℕ). height (slot_size L q) in
    let slots = YieldsList-from_range 0 c.args.n c.args.n c.map.ensures.source (omega arith) in
    c.unwrap_or.ensures
    ∙ ap (λ o. unwrap_or o 0) (reduce_from_yields_List _ c.map.result _ c.max.ensures.ran
    (YieldsList-from_map _ h slots c.map.ensures.closure (λ x r q k. search rules)))
    ∙ max_of_map h (range_with_len 0 c.args.n)
    ∙ ap (λ a. fold (λ a x. max a (height (slot_size L x))) a (range_with_len 0 c.args.n)) (sym (greatest_none L))
    ∙ from_slot L 0 c.args.n ∙ ap (greatest L) (omega arith)
