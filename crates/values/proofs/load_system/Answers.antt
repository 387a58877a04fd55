-- What the reader says of the words, and what the loop stores of them.
use Rattle.std.proofs.Common.{refl, rules, arith}
use Rattle.values.proofs.Answers.{system_refused, system_head, system_asked, system_loads}
use Rattle.values.proofs.load_system.Goals as goal

pub returns-in_err-head : goal.returns-in_err-head
returns-in_err-head c =
    let l = system_refused c.args.words.now c.args.sizes.now c.args.values.now c.in_err-head.field-0.0
    (rw c.limits.ensures at c.in_err-head.ensures) in
    search rules

pub format_for-format-requires : goal.format_for-format-requires
format_for-format-requires c =
    let h = system_head _ (rw c.limits.ensures at c.in_ok-head.ensures) in (h.shape, (omega arith, omega arith))

pub load_entries-requires : goal.load_entries-requires
load_entries-requires c =
    system_asked _ (rw c.limits.ensures at c.in_ok-head.ensures) c.format_for-format.ensures _ _ (omega arith) (omega arith)

pub returns : goal.returns
returns c =
    system_loads _ (rw c.limits.ensures at c.in_ok-head.ensures) c.format_for-format.ensures _ _ _ refl c.load_entries.ensures
