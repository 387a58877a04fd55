use Prim.Native.Nat.{◌+◌}
use native.Mathlib.Omega.{arith}
use Rattle.polynomial_words.proofs.Adding.{Adding, adding_start, adding_fits, adding_turn, adding_end}
use Rattle.polynomial_words.proofs.product.add_rows.Goals as goal

pub loop-i-init : goal.loop-i-init
loop-i-init c = adding_start _ _ _ _ _

pub add_scaled-requires : goal.add_scaled-requires
add_scaled-requires c =
    let S = c in
    let L = c.loop-i in
    let I : Adding S.args.h.now S.args.f.now S.args.n S.args.g.now S.args.k L.h L.i = L.invariant in record {
      n_in_bounds = (omega (arith, I.same_length), omega arith, omega (arith, S.requires.small.1 L.i));
      small = (λ j lt. omega (arith, S.requires.small.2 (0 + j)));
      fits = adding_fits _ _ _ _ _ _ _ I S.requires.n_in_bounds.3 S.requires.small.0 S.requires.small.1 S.requires.small.2;
    }

pub loop-i-preserved : goal.loop-i-preserved
loop-i-preserved c =
    let S = c in
    let L = c.loop-i in
    let called = c.add_scaled in
    adding_turn _ _ _ _ _ _ _ L.invariant called.new.h (omega arith) (omega arith) called.ensures.words called.ensures.polynomials

pub returns : goal.returns
returns c = adding_end _ _ _ _ _ _ _ c.loop-i.invariant (omega arith)
