-- The certificate is among the bytes lent for it.
use Rattle.linksolve.specs.ReplyingLaws.{certificate_most}
use Rattle.linksolve.proofs.main.Goals as goal

pub slice_bounds-deliver-end : goal.slice_bounds-deliver-end
slice_bounds-deliver-end c = certificate_most _ _ _ _ _ _ c.reply-replied.ensures c.in-Ok.is
