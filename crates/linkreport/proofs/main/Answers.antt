-- What is printed is among the bytes lent for it.
use Rattle.linkreport.specs.PrintingLaws.{prints_most}
use Rattle.linkreport.proofs.main.Goals as goal

pub slice_bounds-print-end : goal.slice_bounds-print-end
slice_bounds-print-end c = prints_most _ _ _ _ _ c.reply-n.ensures
