-- A system of equations over a ring with a size: document 01's A·y = b, with n rows and m columns, all degrees at most δ.
use Rattle.std.specs.Prelude.{ℕ, suc, ◌<◌, ◌≤◌}
use Rattle.ring.specs.Ring.{Ring}
use Rattle.algebra.specs.Sized.{Sized}

pub record LinearSystem {A : Type 0} {R : Ring A} (S : Sized R) : Type 0 where
  pub rows : ℕ
  pub columns : ℕ
  pub degree : ℕ
  pub matrix : ℕ → ℕ → A
  pub side : ℕ → A
  pub matrix_small : (i j : ℕ) → i < rows → j < columns → S.size (matrix i j) ≤ suc degree
  pub side_small : (i : ℕ) → i < rows → S.size (side i) ≤ suc degree
