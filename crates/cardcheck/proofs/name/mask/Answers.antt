use Rattle.std.proofs.Common.{refl, ◌∙◌, arith, length-set}
use Rattle.cardcheck.proofs.Masked.{masked_to, masked_to-all, masked_turn}
use Rattle.cardcheck.proofs.name.mask.Goals as goal

pub loop-byte-init : goal.loop-byte-init
unfolding masked_to
loop-byte-init c = (refl, refl)

pub loop-byte-preserved : goal.loop-byte-preserved
loop-byte-preserved c =
    let inv = c.loop-byte.invariant in (
      simp length-set inv.0,
      masked_turn _ c.loop-byte.byte-items c.loop-byte.byte-index _ (omega (arith, inv.0)) inv.0 inv.1 c.mask_byte.ensures,
    )

pub returns : goal.returns
returns c = c.loop-byte.invariant.1 ∙ masked_to-all c.loop-byte.byte-index c.args.name.now (omega arith)
