-- A vector reduced by the slots, but for slot i that it is to fill: a coordinate can be reduced where it is at least as long as the
-- vector of the slot there. Of these coordinates take the longest, the first of them, and a multiple of its slot off that makes it
-- shorter: then those that can still be reduced come before it in the order of pivots, so that reducing ends.
use Rattle.std.specs.Prelude.{ℕ, suc, ◌<◌, ◌≤◌, ◌-◌ as ◌-ₙ◌, ◌≡◌, ◌⊎◌}
use Rattle.std.proofs.Common.{sym, ap, subst, inl, inr, arith}
use Rattle.std.proofs.Math.Logic.{ite, if_pos, if_neg}
use Rattle.std.proofs.Math.Decide.{ℕ_discrete, dec_lt, dec_le}
use Rattle.ring.specs.Ring.{Ring}
use Rattle.algebra.specs.Sized.{Sized, size_of_zero}
use Rattle.reduction.specs.Pivot.{Vanishes, Pivot, Low, Before, pivot_low, pivot_scale, HasPivot, find_pivot}
use Rattle.reduction.specs.Slots.{Slots, Filled, unweighted}

module _ {A : Type 0} {R : Ring A} (S : Sized R) (n : ℕ) (U : Slots A) (i : ℕ) where
  open R use {add as ◌+◌, mul as ◌*◌, neg as -◌, zero as 𝟘}
  open S use {size, size_add, size_neg}

  infixl 65 ◌+◌
  infixl 65 ◌-◌
  infixl 70 ◌*◌
  infix 75 -◌
  abbrev ◌-◌ : A → A → A
  a - b = a + (- b)

  pub record Reducible (v : ℕ → A) (j : ℕ) : Type 0 where
    pub other : ¬ (j ≡ i)
    pub filled : 0 < U.size j
    pub long : U.size j ≤ size (v j)

  -- j is the first of the longest coordinates that can be reduced
  pub record FirstReducible (v : ℕ → A) (j : ℕ) : Type 0 where
    pub inside : j < n
    pub reducible : Reducible v j
    pub before : (k : ℕ) → k < j → Reducible v k → size (v k) < size (v j)
    pub all : (k : ℕ) → k < n → Reducible v k → size (v k) ≤ size (v j)

  -- a times slot j taken off
  module _ (full : Filled S n unweighted U) {v : ℕ → A} {j : ℕ} (F : FirstReducible v j) (a : A)
      (shift : size a ≡ suc (size (v j) -ₙ U.size j)) where
    multiple : Pivot S n unweighted (λ c. a * U.at j c) j (size (v j))
    multiple = subst (Pivot S n unweighted (λ c. a * U.at j c) j) (omega (arith, F.reducible.filled, F.reducible.long))
        (pivot_scale a (omega arith) (full j F.inside F.reducible.filled))

    -- it does not move the pivot
    pub reducing_low : Pivot S n unweighted v i (U.size i) → Low S n unweighted (λ c. a * U.at j c) i (U.size i)
    reducing_low P = pivot_low multiple (go (dec_lt (size (v j)) (U.size i)) (dec_lt j i))
      where
        go : Dec (size (v j) < U.size i) → Dec (j < i) → Before j (size (v j)) i (U.size i)
        go (yes h) b = inl h
        go (no h) (yes b) = inl (omega (arith, P.before j b, P.reached, P.positive))
        go (no h) (no b) = inr (omega (arith, P.all j F.inside), omega (arith, F.reducible.other))

    -- what can then be reduced comes before
    pub reducing_falls : {v' : ℕ → A} → ((c : ℕ) → c < n → v' c ≡ v c - a * U.at j c) → size (v' j) < size (v j)
        → (k : ℕ) → k < n → Reducible v' k → Before k (size (v' k)) j (size (v j))
    reducing_falls {v'} e smaller k h r =
        go (ℕ_discrete k j) (dec_lt (size (v j)) (size (v k))) (dec_lt (size (v' k)) (size (v j))) (dec_lt j k)
      where
        most : size (a * U.at j k) ≤ size (v j)
        most = omega (arith, multiple.all k h)

        bound : (m : ℕ) → size (v k) ≤ m → size (a * U.at j k) ≤ m → size (v' k) ≤ m
        bound m x y = subst (λ z. size z ≤ m) (sym (e k h)) (size_add m (v k) (- (a * U.at j k)) x (size_neg m (a * U.at j k) y))

        again : U.size k ≤ size (v k) → Reducible v k
        again x = record { other = r.other; filled = r.filled; long = x }

        go : Dec (k ≡ j) → Dec (size (v j) < size (v k)) → Dec (size (v' k) < size (v j)) → Dec (j < k)
            → Before k (size (v' k)) j (size (v j))
        go (yes q) b c l = inl (omega (arith, ap (λ x. size (v' x)) q))
        go (no q) (yes b) c l = absurd (by (dec_le (U.size k) (size (v k))))
          where
            by : Dec (U.size k ≤ size (v k)) → ⊥
            by (yes x) = omega (arith, F.all k h (again x))
            by (no x) = omega (arith, bound (size (v k)) (omega arith) (omega (arith, most)), r.long)
        go (no q) (no b) (yes c) l = inl c
        go (no q) (no b) (no c) (yes l) = inr (omega (arith, bound (size (v j)) (omega arith) most), l)
        go (no q) (no b) (no c) (no l) = absurd (by (dec_le (U.size k) (size (v k))))
          where
            shorter : size (v k) < size (v j) → ⊥
            shorter x = omega (arith, bound (size (v j) -ₙ 1) (omega arith) (omega (arith, multiple.before k (omega arith))))

            by : Dec (U.size k ≤ size (v k)) → ⊥
            by (yes x) = shorter (F.before k (omega arith) (again x))
            by (no x) = shorter (omega (arith, bound (size (v j)) (omega arith) most, r.long))

  -- there is one, or none can be reduced
  module _ (v : ℕ → A) where
    decided : (j : ℕ) → Dec (Reducible v j)
    decided j = go (ℕ_discrete j i) (dec_lt 0 (U.size j)) (dec_le (U.size j) (size (v j)))
      where
        go : Dec (j ≡ i) → Dec (0 < U.size j) → Dec (U.size j ≤ size (v j)) → Dec (Reducible v j)
        go (yes e) b c = no (λ r. r.other e)
        go (no e) (no b) c = no (λ r. b r.filled)
        go (no e) (yes b) (no c) = no (λ r. c r.long)
        go (no e) (yes b) (yes c) = yes (record { other = e; filled = b; long = c })

    -- v where it can be reduced
    abbrev x : ℕ → A
    x j = ite (decided j) (v j) 𝟘

    there : (j : ℕ) → Reducible v j → x j ≡ v j
    there j r = if_pos (decided j) r (v j) 𝟘

    is : (j : ℕ) → 0 < size (x j) → Reducible v j
    is j p = go (decided j)
      where
        go : Dec (Reducible v j) → Reducible v j
        go (yes r) = r
        go (no r) = absurd (omega (arith, size_of_zero S (x j) (if_neg (decided j) r (v j) 𝟘)))

    pub find_reducible : ((j : ℕ) × FirstReducible v j) ⊎ ((j : ℕ) → j < n → ¬ Reducible v j)
    find_reducible = go (find_pivot S unweighted n x)
      where
        go : HasPivot S unweighted n x ⊎ Vanishes R n x → ((j : ℕ) × FirstReducible v j) ⊎ ((j : ℕ) → j < n → ¬ Reducible v j)
        go (inr z) = inr (λ j h r. omega (arith, ap size (there j r), size_of_zero S (x j) (z j h), r.filled, r.long))
        go (inl P) =
            let j : ℕ = P.at in
            let r : Reducible v j = is j P.pivot.positive in
            inl (
              j,
              record {
                inside = P.pivot.inside;
                reducible = r;
                before = λ k h s. omega (
                  arith,
                  ap size (there k s),
                  ap size (there j r),
                  P.pivot.before k h,
                  P.pivot.reached,
                  P.pivot.positive,
                );
                all = λ k h s. omega (arith, ap size (there k s), ap size (there j r), P.pivot.all k h, P.pivot.reached);
              },
            )
