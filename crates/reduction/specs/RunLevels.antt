-- The levels of a system, as a function.
use Rattle.std.specs.Prelude.{ℕ, zero, suc, ◌<◌, ◌≤◌, ◌≡◌}
use Rattle.std.proofs.Math.Path.{refl, ap}
use Rattle.std.proofs.Common.{inl, inr, arith}
use Rattle.ring.specs.Ring.{Ring}
use Rattle.algebra.specs.Sized.{Sized}
use Rattle.reduction.specs.Replace.{replace_here}
use Rattle.reduction.specs.Pivot.{Vanishes}
use Rattle.reduction.specs.Slots.{Slots, Filled, unweighted, put, put_same, put_here, same_refl}
use Rattle.reduction.specs.Euclidean.{Euclidean}
use Rattle.reduction.specs.Trace.{State}
use Rattle.reduction.specs.Insert.{Stop, Stuck}
use Rattle.reduction.specs.System.{LinearSystem}
use Rattle.reduction.specs.Link.{Link}
use Rattle.reduction.specs.Column.{link_put, link_kernel}
use Rattle.reduction.specs.Levels.{Levels}
use Rattle.reduction.specs.Run.{Run, run}

module _ {A : Type 0} {R : Ring A} {S : Sized R} (E : Euclidean S) where
  -- the next level, after the column a
  record Next (n : ℕ) (U : Slots A) (a : ℕ → A) : Type 0 where
    pub slots : Slots A
    pub kernel : A
    pub filled : Filled S n unweighted slots
    pub link : (δ : ℕ) → ((i : ℕ) → i < n → S.size (a i) ≤ suc δ) → Link S n δ a U slots kernel

  module _ (n : ℕ) (U : Slots A) (full : Filled S n unweighted U) (a : ℕ → A) (X : Run S n unweighted U a) where
    abbrev t : State A
    t = X.inserting.now

    next_kernel : Vanishes R n X.inserting.now.hand → Next n U a
    next_kernel z = record { slots = t.slots; kernel = t.hand n; filled = (link 0).filled; link = λ δ h. link δ }
      where
        link : (δ : ℕ) → Link S n δ a U t.slots (t.hand n)
        link δ = link_kernel S n δ a U full X.inserting t.slots z (same_refl t.slots) (t.hand n) refl

    next_put : Stuck S n unweighted X.inserting.now → Next n U a
    next_put K = record {
      slots = U';
      kernel = R.zero;
      filled = (link X.inserting.size (omega arith)).filled;
      link = λ δ h. link δ (X.small (suc δ) (λ k l. omega (arith, h k l)));
    }
      where
        U' : Slots A
        U' = put t.slots K.at t.hand t.size

        link : (δ : ℕ) → X.inserting.size ≤ suc δ → Link S n δ a U U' R.zero
        link δ le = link_put S n δ a U full X.inserting U' K
            (put_same t.slots K.at t.hand t.size K.pivot.inside)
            (λ k l. put_here t.slots K.at t.hand t.size k) (replace_here t.slots.size K.at t.size) le

    next_by : Stop S n unweighted X.inserting.now → Next n U a
    next_by (inl z) = next_kernel z
    next_by (inr K) = next_put K

  next : (n : ℕ) (U : Slots A) → Filled S n unweighted U → (a : ℕ → A) → Next n U a
  next n U full a = let X = run E n unweighted U full a in next_by n U full a X X.stop

  record Built (n : ℕ) : Type 0 where
    pub slots : Slots A
    pub filled : Filled S n unweighted slots

  -- from the slots U on, after the columns a 0, a 1, ..
  module _ (n : ℕ) (U : Slots A) (full : Filled S n unweighted U) (a : ℕ → ℕ → A) where
    built : ℕ → Built n
    built zero = record { slots = U; filled = full }
    built (suc j) =
        let X = next n (built j).slots (built j).filled (a j) in
        record { slots = X.slots; filled = X.filled }

    pub slots_after : ℕ → Slots A
    slots_after j = (built j).slots

    pub kernel_after : ℕ → A
    kernel_after j = (next n (built j).slots (built j).filled (a j)).kernel

    pub after_none : slots_after 0 ≡ U
    unfolding built slots_after
    after_none = refl

    pub after_link : (δ j : ℕ) → ((i : ℕ) → i < n → S.size (a j i) ≤ suc δ)
        → Link S n δ (a j) (slots_after j) (slots_after (suc j)) (kernel_after j)
    unfolding built slots_after kernel_after
    after_link δ j = (next n (built j).slots (built j).filled (a j)).link δ

  module _ (T : LinearSystem S) where
    open T use {rows as n, columns as m, degree as δ, matrix as M, matrix_small}

    empty : Slots A
    empty = record { at = λ q k. R.zero; size = λ q. 0 }

    empty_filled : Filled S n unweighted empty
    unfolding empty
    empty_filled q h f = absurd (omega arith)

    pub level : ℕ → Slots A
    level = slots_after n empty empty_filled (λ j i. M i j)

    pub kernel : ℕ → A
    kernel = kernel_after n empty empty_filled (λ j i. M i j)

    pub levels : Levels T level kernel m
    unfolding empty level kernel
    levels = record {
      empty = λ q h. ap (λ U. U.size q) (after_none n empty empty_filled (λ j i. M i j));
      link = λ j h. after_link n empty empty_filled (λ j i. M i j) δ j (λ i l. matrix_small i j l h);
    }
