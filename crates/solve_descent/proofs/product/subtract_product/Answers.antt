use mathlib.Core.Path.{◌≡◌, ◌∙◌}
use native.Mathlib.Omega.{arith}
use Rattle.residue.specs.Modulus.{valid_modulus}
use Rattle.solve_descent.proofs.Products.{product_start, product_none, product_sum, product_turn, product_skip}
use Rattle.solve_descent.proofs.product.subtract_product.Goals as goal
use Rattle.solve_descent.proofs.product.subtract_product.Goals.{then-factor-gt0, else-factor-gt0}

pub add_scaled-requires-clause-fits : goal.add_scaled-requires-clause-fits
add_scaled-requires-clause-fits c j lt = product_sum c.loop-k.invariant c.requires.factors.1 c.requires.small.1 c.args.terms.count
    (omega arith) c.requires.bounds.0 (valid_modulus c.args.modulus).limit c.requires.small.0 j lt

pub loop-k-preserved : goal.loop-k-preserved
loop-k-preserved c =
    let L = c.loop-k in
    elim c.if-factor-gt0.branch [
      | then-factor-gt0 w ↦ product_turn L.invariant c.requires.factors.1 c.requires.small.1 _ (w.h-is ∙ w.add_scaled.ensures.words)
      | else-factor-gt0 w ↦ rw w.h-is (product_skip L.invariant (omega (arith, w.if-factor-gt0.false)))
    ]

pub returns : goal.returns
returns c =
    let end : c.loop-k.k ≡ c.args.terms.count = omega arith in
    rw (← end) c.loop-k.invariant

pub returns-then-m-eq0 : goal.returns-then-m-eq0
returns-then-m-eq0 c = product_none (omega arith)

pub loop-k-init : goal.loop-k-init
loop-k-init c = product_start
