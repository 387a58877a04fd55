-- The levels of mathematics.md's solver: level j has the slots after the first j columns. L5: they span these columns; L6: the
-- sum of their degrees is at most rank·δ.
use Prim.Native.Nat.{ℕ, zero, suc, ◌<◌, ◌≤◌, min}
use Rattle.std.specs.Prelude.{◌*◌ as ◌*ₙ◌, ◌≡◌, refl, [], ◌∷◌, ◌⊎◌}
use Rattle.std.proofs.Common.{sym, ◌∙◌, ap₂, subst, inl, inr, arith}
use Rattle.std.proofs.Math.Path.{ap}
use Rattle.ring.specs.Ring.{Ring, zero_mul}
use Rattle.ring.specs.Sum.{sum, sum_ext, sum_none}
use Rattle.ring.specs.Identity.{quotes, identity}
use Rattle.ring.specs.Combination.{given, combination}
use Rattle.algebra.specs.Sized.{Sized}
use Rattle.reduction.specs.Total.{rank, degrees, rank_ext, degrees_ext, total_constant}
use Rattle.reduction.specs.Replace.{replace, replace_here, replace_other, below_suc}
use Rattle.reduction.specs.Slots.{Slots, Filled, unweighted, Same, SameBlocks, same_blocks, blocks_sym, filled_blocks}
use Rattle.reduction.specs.Span.{combined, InSpan, InSpanWith, span_zero, span_ext, span_combine, span_blocks}
use Rattle.reduction.specs.System.{LinearSystem}
use Rattle.reduction.specs.Link.{Link, Grows, Kernel, link_same}
use Rattle.reduction.specs.Dependence.{link_lower}

module _ {A : Type 0} {R : Ring A} {S : Sized R} (T : LinearSystem S) where
  open T use {rows as n, degree as δ, matrix as M}

  -- x is a combination of the first j columns
  pub record Columns (j : ℕ) (x : ℕ → A) : Type 0 where
    pub parts : ℕ → A
    pub equal : (i : ℕ) → i < n → x i ≡ sum R j (λ k. R.mul (M i k) (parts k))

  -- what is known of the slots of level j
  pub record LevelKnown (j : ℕ) (U : Slots A) : Type 0 where
    pub filled : Filled S n unweighted U
    pub spanned : (k : ℕ) → k < j → InSpan R n n U (λ i. M i k)
    pub within : (x : ℕ → A) → InSpan R n n U x → Columns j x
    pub rank_le : rank n U.size ≤ j
    pub degrees_le : degrees n U.size ≤ rank n U.size *ₙ δ

  pub level_empty : (U : Slots A) → ((q : ℕ) → q < n → U.size q ≡ 0) → LevelKnown 0 U
  unfolding sum
  level_empty U z = record {
    filled = λ q h f. absurd (omega (arith, z q h));
    spanned = λ k h. absurd (omega arith);
    within = λ x s. record {
      parts = λ k. R.zero;
      equal = λ i h. s.equal i h ∙ nothing x s i;
    };
    rank_le = omega (arith, rank_ext n U.size (λ q. 0) (λ q h. ap (min 1) (z q h)), total_constant n 0);
    degrees_le = omega (arith, degrees_ext n U.size (λ q. 0) z, total_constant n 0);
  }
    where
      nothing : (x : ℕ → A) (s : InSpan R n n U x) (i : ℕ) → combined R n s.coefficient U i ≡ sum R 0
          (λ k. R.mul (M i k) R.zero)
      nothing x s i = sum_none R n (λ q. R.mul (s.coefficient q) (U.at q i))
          (λ q h. ap (λ y. R.mul y (U.at q i)) (s.empty q h (z q h)) ∙ zero_mul R (U.at q i))

  -- tails play no part
  pub level_blocks : {j : ℕ} {U U' : Slots A} → SameBlocks n U U' → LevelKnown j U → LevelKnown j U'
  level_blocks {U = U} {U'} e L = record {
    filled = filled_blocks e L.filled;
    spanned = λ k h. span_blocks R e (L.spanned k h);
    within = λ x s. L.within x (span_blocks R (blocks_sym e) s);
    rank_le = omega (arith, L.rank_le, same);
    degrees_le = omega (arith, L.degrees_le, degrees_ext n U.size U'.size e.sizes, ap (λ r. r *ₙ δ) same);
  }
    where
      same : rank n U.size ≡ rank n U'.size
      same = rank_ext n U.size U'.size (λ q h. ap (min 1) (e.sizes q h))

  -- L5: one column more; L6: its degrees
  pub level_next : {j : ℕ} {U U' : Slots A} {kernel : A} → LevelKnown j U → Link S n δ (λ i. M i j) U U' kernel
      → LevelKnown (suc j) U'
  unfolding sum
  level_next {j} {U} {U'} {kernel} L K = record {
    filled = K.filled;
    spanned = below_suc j (λ k. InSpan R n n U' (λ i. M i k)) (λ k h. K.up (λ i. M i k) (L.spanned k h)) K.new;
    within = inside;
    rank_le = (bounds K.kind).0;
    degrees_le = (bounds K.kind).1;
  }
    where
      inside : (x : ℕ → A) → InSpan R n n U' x → Columns (suc j) x
      inside x s = record { parts = replace p j τ; equal = equal }
        where
          w : InSpanWith R n n U (λ i. M i j) x
          w = link_lower K x s

          τ : A
          τ = w.multiple

          C : Columns j (λ i. R.add (x i) (R.neg (R.mul τ (M i j))))
          C = L.within (λ i. R.add (x i) (R.neg (R.mul τ (M i j)))) w.rest

          p : ℕ → A
          p = C.parts

          equal : (i : ℕ) → i < n → x i ≡ sum R (suc j) (λ k. R.mul (M i k) (replace p j τ k))
          equal i h =
              combination R (x i) (R.add (sum R j (λ k. R.mul (M i k) (p k))) (R.mul (M i j) τ))
              (given R.one (C.equal i h) ∷ [])
              (identity R (x i ∷ M i j ∷ τ ∷ sum R j (λ k. R.mul (M i k) (p k)) ∷ []) (λ ρ qx qm qτ qs. search quotes depth 16)
              refl)
              ∙ sym (ap₂ R.add (sum_ext R j (λ k. R.mul (M i k) (replace p j τ k)) (λ k. R.mul (M i k) (p k))
              (λ k l. ap (R.mul (M i k)) (replace_other p j τ k (λ e. omega arith)))) (ap (R.mul (M i j)) (replace_here p j τ)))

      bounds : Grows S n δ U U' kernel ⊎ Kernel S n U U' kernel
          → (rank n U'.size ≤ suc j) × (degrees n U'.size ≤ rank n U'.size *ₙ δ)
      bounds (inl k) = (omega (arith, L.rank_le), omega (arith, L.degrees_le, ap (λ x. x *ₙ δ) k.one_more))
      bounds (inr k) = (omega (arith, L.rank_le), omega (arith, L.degrees_le, ap (λ x. x *ₙ δ) k.no_more))

  -- and every combination of the first j columns is in the span
  pub level_spans : {j : ℕ} {U : Slots A} {x : ℕ → A} → LevelKnown j U → Columns j x → InSpan R n n U x
  unfolding sum
  level_spans {j} {U} {x} L C = span_ext R (upto j (omega arith)) x C.equal
    where
      upto : (k : ℕ) → k ≤ j → InSpan R n n U (λ i. sum R k (λ l. R.mul (M i l) (C.parts l)))
      upto zero h = span_zero R U (λ i. R.zero) (λ i g. refl)
      upto (suc k) h = span_combine R R.one (C.parts k) (upto k (omega arith)) (L.spanned k h)
          (λ i. R.add (sum R k (λ l. R.mul (M i l) (C.parts l))) (R.mul (M i k) (C.parts k)))
          (λ i g. identity R (sum R k (λ l. R.mul (M i l) (C.parts l)) ∷ M i k ∷ C.parts k ∷ [])
          (λ ρ qs qm qp. search quotes depth 16) refl)

  -- the levels 0 to i, with the kernels of the columns
  pub record Levels (level : ℕ → Slots A) (kernel : ℕ → A) (i : ℕ) : Type 0 where
    pub empty : (q : ℕ) → q < n → (level 0).size q ≡ 0
    pub link : (j : ℕ) → j < i → Link S n δ (λ k. M k j) (level j) (level (suc j)) (kernel j)

  pub level_of : {level : ℕ → Slots A} {kernel : ℕ → A} {i : ℕ} → Levels level kernel i → (j : ℕ) → j ≤ i → LevelKnown j (level j)
  level_of {level} C zero h = level_empty (level 0) C.empty
  level_of C (suc j) h = level_next (level_of C j (omega arith)) (C.link j h)

  -- one level more, in memory that keeps the earlier levels
  pub levels_next : {level level' : ℕ → Slots A} {kernel kernel' : ℕ → A} {i : ℕ} → Levels level kernel i
      → ((j : ℕ) → j ≤ i → Same n (level j) (level' j)) → ((j : ℕ) → j < i → kernel j ≡ kernel' j)
      → Link S n δ (λ k. M k i) (level' i) (level' (suc i)) (kernel' i) → Levels level' kernel' (suc i)
  levels_next {level} {level'} {kernel} {kernel'} {i} C e e' K = record {
    empty = λ q h. omega (arith, C.empty q h, (e 0 (omega arith)).sizes q h);
    link = below_suc i (λ j. Link S n δ (λ k. M k j) (level' j) (level' (suc j)) (kernel' j))
        (λ j h. subst (Link S n δ (λ k. M k j) (level' j) (level' (suc j))) (e' j h)
        (link_same S n δ (same_blocks (e j (omega arith))) (e (suc j) h) (C.link j h))) K;
  }
