-- First the number of right sides, then what a system's shape and values give (`system_framed`).
use Rattle.std.proofs.Common.{◌≡◌, sym, ◌∙◌, true}
use Rattle.words.specs.Limits.{office}
use Rattle.words.specs.System.{one_to}
use Rattle.writer.specs.Formats.{system_framed}
use Rattle.writer.proofs.Answers.{writes_as, sides_refused, sides_written}
use Rattle.writer.proofs.system.write_system.Goals as goal

pub returns-then-not-one_to : goal.returns-then-not-one_to
returns-then-not-one_to c =
    writes_as (system_framed _ _ _ _ _)
    (sides_refused office c.args.sides _ _ _ (simp (sym c.one_to.ensures ∙ c.if-not-one_to.true)))

pub returns : goal.returns
returns c =
    let within : one_to office.sides c.args.sides ≡ true = sym c.one_to.ensures ∙ c.if-not-one_to.false in
    writes_as (system_framed _ _ _ _ _)
    (sides_written office c.args.sides _ c.args.words.now (simp within) c.write_shaped.ensures)
