-- A column inserted from its beginning to its end, as a function.
use Rattle.std.specs.Prelude.{ℕ, ◌-◌, ◌<◌, ◌≤◌, ◌⊎◌}
use Rattle.std.proofs.Common.{sym, ◌∙◌, inl, inr, arith}
use Rattle.ring.specs.Ring.{Ring}
use Rattle.algebra.specs.Sized.{Sized}
use Rattle.reduction.specs.Replace.{extend_below}
use Rattle.reduction.specs.Pivot.{Vanishes, Pivot, pivot_ext, HasPivot, find_pivot}
use Rattle.reduction.specs.Slots.{Slots, Filled}
use Rattle.reduction.specs.Euclidean.{Euclidean}
use Rattle.reduction.specs.Insert.{Stop, Inserted, insert}
use Rattle.reduction.specs.Inserting.{begin, begins, Inserting}

pub record Run {A : Type 0} {R : Ring A} (S : Sized R) (n : ℕ) (ω : ℕ → ℕ) (U : Slots A) (a : ℕ → A) : Type 0 where
  pub inserting : Inserting S n ω U a
  pub stop : Stop S n ω inserting.now
  -- no more than what the coordinates of a allow
  pub small : (D : ℕ) → ((k : ℕ) → k < n → S.size (a k) ≤ D - ω k) → inserting.size ≤ D

module _ {A : Type 0} {R : Ring A} {S : Sized R} (E : Euclidean S) (n : ℕ) (ω : ℕ → ℕ) (U : Slots A) (full : Filled S n ω U)
    (a : ℕ → A) where
  -- from the weighted size d of a
  run_from : (d : ℕ) → ((D : ℕ) → ((k : ℕ) → k < n → S.size (a k) ≤ D - ω k) → d ≤ D)
      → Vanishes R n (begin R n U a d).hand ⊎ ((p : ℕ) × Pivot S n ω (begin R n U a d).hand p d) → Run S n ω U a
  run_from d small x = go (insert E n ω (begin R n U a d) (begins R n U full a d).filled x)
    where
      go : Inserted S n ω (begin R n U a d) → Run S n ω U a
      go X = record { inserting = record { size = d; now = X.last; trace = X.trace }; stop = X.stop; small = small }

  pub run : Run S n ω U a
  run = go (find_pivot S ω n a)
    where
      go : HasPivot S ω n a ⊎ Vanishes R n a → Run S n ω U a
      go (inr z) = run_from 0 (λ D h. omega arith) (inl (λ k h. extend_below n a R.one k h ∙ z k h))
      go (inl x) = run_from x.size (λ D h. omega (arith, x.pivot.reached, x.pivot.positive, h x.at x.pivot.inside))
          (inr (x.at, pivot_ext (λ k h. sym (extend_below n a R.one k h)) x.pivot))
