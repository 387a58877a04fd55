-- `reader::kept::system_exceeds` meets its contract: the numbers of the head, then the polynomials.
use Rattle.std.proofs.Common.{⊎_elim}
use Rattle.limits.specs.Value.{limits_of}
use Rattle.reader.proofs.KeptSteps.{system_has, rows_exceed, columns_exceed, sides_exceed, entries_exceed}
use Rattle.reader.proofs.kept.system_exceeds.Goals as goal

pub returns-then-kept-shape : goal.returns-then-kept-shape
returns-then-kept-shape c =
    let kept = limits_of c.args.kept in
    ⊎_elim (rows_exceed kept _ _ c.requires)
    (⊎_elim (λ h. columns_exceed kept _ _ c.requires h.0 h.1) (λ h. sides_exceed kept _ _ c.requires h.0 h.1 h.2))
    c.then-kept-shape.either

pub some_longer-requires : goal.some_longer-requires
some_longer-requires c =
    rw (c.from-rows.ensures, c.from.ensures, c.from-2.ensures) (system_has (limits_of c.args.kept) _ _ c.requires)

pub returns : goal.returns
returns c =
    entries_exceed (limits_of c.args.kept) _ _ c.requires c.if-kept-shape.false c.if-kept-shape-2.false c.if-kept-head.false
    (rw (c.from-rows.ensures, c.from.ensures, c.from-2.ensures, c.from-3.ensures) at c.some_longer.ensures)
