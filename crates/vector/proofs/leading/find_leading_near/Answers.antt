use Rattle.std.proofs.Common.{◌≡◌, ◌+◌, ◌-◌, ◌%◌, ◌≤◌, length, get_or, sym, ap, ◌∙◌, arith}
use Rattle.algebra.specs.Coefficients.{leading}
use Rattle.modular.specs.Modulo.{modulo}
use Rattle.vector.specs.Size.{reduced_take_none, reduced_take_zero, size_take, leading_take}
use Rattle.vector.proofs.leading.find_leading_near.Goals as goal

pub returns-then-value-ne0 : goal.returns-then-value-ne0
returns-then-value-ne0 c =
    let A = c.args in
    let k = c.loop-k.k in
    let value = c.reduce-value.ensures in
    let counts : get_or A.h.now (k - 1) 0 % A.modulus.p ≡ 0 → ⊥ = λ z. c.if-value-ne0.true (value ∙ z) in
    let next : k ≡ k - 1 + 1 = omega arith in
    let inside : k ≤ length A.h.now = omega arith in record {
      size = sym next ∙ sym (ap length c.loop-k.invariant ∙ size_take A.modulus.p A.h.now _ _ next inside counts);
      value = value ∙ sym (ap (leading _) c.loop-k.invariant ∙ leading_take A.modulus.p A.h.now _ _ next inside counts);
    }

pub loop-k-preserved : goal.loop-k-preserved
loop-k-preserved c =
    let A = c.args in
    let k = c.loop-k.k in
    let zero = sym c.reduce-value.ensures ∙ c.if-value-ne0.false in
    let next : k ≡ k - 1 + 1 = omega arith in
    c.loop-k.invariant ∙ reduced_take_zero A.modulus.p A.h.now _ _ next (omega arith) zero

pub returns : goal.returns
unfolding leading modulo
returns c =
    let A = c.args in
    let none = c.loop-k.invariant ∙ reduced_take_none A.modulus.p A.h.now c.loop-k.k c.loop-k-test.false in
    record {
      size = sym (ap length none);
      value = sym (ap (leading (modulo A.modulus.p)) none);
    }
