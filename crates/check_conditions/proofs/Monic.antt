-- Monic polynomials are not zero; w is one where 31 was passed.
use mathlib.Core.Path.{◌≡◌}
use mathlib.Core.Bool.{not}
use mathlib.Core.List.{List, [], ◌∷◌}
use Prim.Native.Nat.{ℕ, ◌<◌}
use native.Mathlib.Omega.{arith}
use lib.ListN.{length}
use borrow.Author.Tests.{eqb-true, not-false}
use Rattle.algebra.specs.Coefficients.{leading}
use Rattle.modular.specs.Modulo.{modulo}
use Rattle.words.specs.Outcome.{refuse}
use Rattle.words.specs.Outcome.Outcome.{accepted}
use Rattle.words.specs.OutcomeLaws.{refuse_passed}
use Rattle.truth.specs.Verdict.{monic?}
use Rattle.check_conditions.specs.Table.{try_monic}

pub monic_some : (p : ℕ) (f : List ℕ) → leading (modulo p) f ≡ 1 → 0 < length f
unfolding leading modulo
monic_some p [] e = absurd (omega arith)
monic_some p (a ∷ f) e = omega arith

pub passed_some : (p : ℕ) (d w : List ℕ) → try_monic p d w ≡ accepted tt → 0 < length w
unfolding try_monic
passed_some p d w e =
    let first = refuse_passed (not (monic? p d)) 31 0 (refuse (not (monic? p w)) 31 1 (accepted tt)) e in
    let second = refuse_passed (not (monic? p w)) 31 1 (accepted tt) first.1 in
    monic_some p w (eqb-true (leading (modulo p) w) 1 (not-false (monic? p w) second.0))
