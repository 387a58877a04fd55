-- L8, the slots of the second system: the blocks of slots U transposed, coordinates in reversed order, with weights that give
-- every slot one weighted size D; its right side are the tails of U.
use Rattle.std.specs.Prelude.{ℕ, suc, ◌<◌, ◌≤◌, ◌+◌ as ◌+ₙ◌, ◌-◌ as ◌-ₙ◌, ◌≡◌, ◌⊎◌}
use Rattle.std.proofs.Common.{sym, ◌∙◌, ap, subst, inl, inr, arith}
use Rattle.std.proofs.Math.Logic.{ite, if_pos, if_neg}
use Rattle.std.proofs.Math.Decide.{ℕ_discrete}
use Rattle.ring.specs.Ring.{Ring}
use Rattle.algebra.specs.Sized.{Sized, size_of_zero}
use Rattle.reduction.specs.Total.{degrees}
use Rattle.reduction.specs.Pivot.{Pivot}
use Rattle.reduction.specs.Slots.{Slots, Filled, unweighted}

-- slots to transpose: D is at least all weighted sizes, and B is what bounds the tails
pub record Tops {A : Type 0} {R : Ring A} (S : Sized R) (n B D : ℕ) (U : Slots A) : Type 0 where
  pub filled : Filled S n unweighted U
  pub tails : (q : ℕ) → q < n → 0 < U.size q → 0 < S.size (U.at q n)
      → S.size (U.at q n) +ₙ degrees n U.size ≤ B +ₙ U.size q
  pub high : (q : ℕ) → q < n → U.size q ≤ D

-- a where the size d of a slot is not 0, else z
unfoldable pub masked : {A : Type 0} → ℕ → A → A → A
masked d z a = ite (ℕ_discrete d 0) z a

pub masked_filled : {A : Type 0} (d : ℕ) (z a : A) → 0 < d → masked d z a ≡ a
unfolding masked
masked_filled d z a h = if_neg (ℕ_discrete d 0) (omega arith) z a

pub masked_empty : {A : Type 0} (d : ℕ) (z a : A) → d ≡ 0 → masked d z a ≡ z
unfolding masked
masked_empty d z a h = if_pos (ℕ_discrete d 0) h z a

-- coordinate i in reversed order
abbrev pub back : ℕ → ℕ → ℕ
back n i = n -ₙ suc i

module _ {A : Type 0} (R : Ring A) (n D : ℕ) (U : Slots A) where
  -- slot k of the second system: coordinate k of all blocks; nothing at the places of empty slots
  abbrev pub transposed : Slots A
  transposed = record {
    at = λ k i. masked (U.size (back n i)) R.zero (U.at (back n i) (back n k));
    size = λ k. masked (U.size (back n k)) 0 D;
  }

  abbrev pub second_side : ℕ → A
  second_side i = masked (U.size (back n i)) R.zero (U.at (back n i) n)

  abbrev pub weights : ℕ → ℕ
  weights i = D -ₙ U.size (back n i)

module _ {A : Type 0} {R : Ring A} {S : Sized R} {n B D : ℕ} {U : Slots A} (O : Tops S n B D U) where
  open R use {zero as 𝟘}
  open S use {size, size_none}

  abbrev C : Slots A
  C = transposed R n D U

  abbrev g : ℕ → A
  g = second_side R n D U

  abbrev ω : ℕ → ℕ
  ω = weights R n D U

  -- the size of the slot that coordinate i comes from
  abbrev d : ℕ → ℕ
  d i = U.size (back n i)

  pub sizes_high : (i : ℕ) → i < n → d i ≤ D
  sizes_high i h = O.high (back n i) (omega arith)

  pub size_filled : (k : ℕ) → 0 < C.size k → (0 < d k) × (C.size k ≡ D)
  size_filled k h = go (ℕ_discrete (d k) 0)
    where
      go : Dec (d k ≡ 0) → (0 < d k) × (C.size k ≡ D)
      go (yes z) = absurd (omega (arith, masked_empty (d k) 0 D z))
      go (no z) = (omega arith, masked_filled (d k) 0 D (omega arith))

  -- in reversed order the pivot of slot k is k: it comes before the pivots of later slots and after those of earlier ones
  pub transposed_filled : Filled S n ω C
  transposed_filled k h f = subst (Pivot S n ω (C.at k) k) (sym (size_filled k f).1) record {
    inside = h;
    positive = omega (arith, same, P.positive);
    reached = omega (arith, same, P.reached, sizes_high k h);
    before = λ i l. cell i (D -ₙ 1) (λ p.
        omega (arith, (O.filled (back n i) (omega arith) p).before (back n k) (omega arith), sizes_high i (omega arith)));
    all = λ i l. cell i D (λ p.
        omega (arith, (O.filled (back n i) (omega arith) p).all (back n k) (omega arith), sizes_high i l));
  }
    where
      P : Pivot S n unweighted (U.at (back n k)) (back n k) (d k)
      P = O.filled (back n k) (omega arith) (size_filled k f).0

      same : size (C.at k k) ≡ size (U.at (back n k) (back n k))
      same = ap size (masked_filled (d k) 𝟘 (U.at (back n k) (back n k)) (size_filled k f).0)

      cell : (i b : ℕ) → (0 < d i → size (U.at (back n i) (back n k)) ≤ b -ₙ (D -ₙ d i)) → size (C.at k i) ≤ b -ₙ (D -ₙ d i)
      cell i b e = go (ℕ_discrete (d i) 0)
        where
          go : Dec (d i ≡ 0) → size (C.at k i) ≤ b -ₙ (D -ₙ d i)
          go (yes z) = omega (arith, size_of_zero S (C.at k i) (masked_empty (d i) 𝟘 (U.at (back n i) (back n k)) z))
          go (no z) = omega (arith, ap size (masked_filled (d i) 𝟘 (U.at (back n i) (back n k)) (omega arith)), e (omega arith))

  -- the right side is zero at the places of empty slots, and bounded like the tails of U
  pub second_side_cases : (i : ℕ) → i < n → (size (g i) +ₙ degrees n U.size ≤ B +ₙ d i) ⊎ (g i ≡ 𝟘)
  second_side_cases i h = go (ℕ_discrete (d i) 0) (ℕ_discrete (size τ) 0)
    where
      τ : A
      τ = U.at (back n i) n

      go : Dec (d i ≡ 0) → Dec (size τ ≡ 0) → (size (g i) +ₙ degrees n U.size ≤ B +ₙ d i) ⊎ (g i ≡ 𝟘)
      go (yes z) y = inr (masked_empty (d i) 𝟘 τ z)
      go (no z) (yes y) = inr (masked_filled (d i) 𝟘 τ (omega arith) ∙ size_none τ y)
      go (no z) (no y) = inl (omega (
        arith,
        ap size (masked_filled (d i) 𝟘 τ (omega arith)),
        O.tails (back n i) (omega arith) (omega arith) (omega arith),
      ))
