-- A block in one flat array of W lanes (section 5 of mathematics.md): coefficient k of coordinate i is at (k + ω i)·W + (W-1-i),
-- with zeros below. So weights need no code, the last index that is not zero is the pivot, and a step is a loop over one range.
use Rattle.std.specs.Prelude.{ℕ, suc, ◌<◌, ◌≤◌, ◌/◌, ◌%◌, ◌+◌ as ◌+ₙ◌, ◌-◌ as ◌-ₙ◌, ◌*◌ as ◌*ₙ◌, ◌≡◌, refl, [], ◌∷◌}
use Rattle.std.proofs.Common.{sym, ◌∙◌, ap, ap₂, subst, arith, mul-le-mul_right, div-add-mod', mod-lt}
use Rattle.std.proofs.Math.Decide.{ℕ_discrete, dec_lt, dec_le}
use Rattle.ring.specs.Ring.{one_mul, mul_zero}
use Rattle.ring.specs.Identity.{quotes, identity}
use Rattle.algebra.specs.Field.{Field}
use Rattle.algebra.specs.Polynomial.{Polynomial, polynomials}
use Rattle.algebra.specs.Expressions.{shift, shift_mul}
use Rattle.algebra.specs.Sized.{size_of_zero, size_positive}
use Rattle.algebra.specs.Size.{size, sized, size_none, size_shift}
use Rattle.reduction.specs.Pivot.{Vanishes, Pivot}
use Rattle.reduction.specs.Holds.{Holds, monomial, holds_size, holds_size_exact}
use Rattle.reduction.specs.Holds.{holds_shift, holds_step, read, read_holds}

-- the place of degree e in the lane of coordinate i
abbrev pub flat : (W i e : ℕ) → ℕ
flat W i e = e *ₙ W +ₙ (W -ₙ suc i)

-- a place of higher degree, or of the same degree and an earlier coordinate, is a later place
pub flat_above : (W i j e e' : ℕ) → i < W → e < e' → flat W i e < flat W j e'
flat_above W i j e e' hi h = omega (arith, mul-le-mul_right W h)

pub flat_later : (W i j e e' : ℕ) → i < W → j < i → e ≤ e' → flat W i e < flat W j e'
flat_later W i j e e' hi h le = omega (arith, mul-le-mul_right W le)

module _ {K : Type 0} (F : Field K) where
  open F.ring use {add as ◌⊕◌, mul as ◌⊗◌, neg as ⊝◌, zero as 𝟎}
  open polynomials F use {add as ◌+◌, mul as ◌*◌, neg as -◌, zero as 𝟘, one as 𝟙}

  infixl 65 ◌⊕◌
  infixl 65 ◌+◌
  infixl 70 ◌⊗◌
  infixl 70 ◌*◌
  infix 75 ⊝◌
  infix 75 -◌
  -- the lane of coordinate i holds x^(ω i) times that coordinate; the lanes beside the block are zero
  pub record Flat (n W : ℕ) (ω : ℕ → ℕ) (H : ℕ → K) (v : ℕ → Polynomial F) : Type 0 where
    pub lanes : n ≤ W
    pub lane : (i : ℕ) → i < n → Holds F (λ e. H (flat W i e)) (shift F (ω i) (v i))
    pub beside : (i e : ℕ) → n ≤ i → i < W → H (flat W i e) ≡ 𝟎

  size_shift_le : (k b : ℕ) (x : Polynomial F) → size F (shift F k x) ≤ b → size F x ≤ b -ₙ k
  size_shift_le k b x h = go (ℕ_discrete (size F x) 0)
    where
      go : Dec (size F x ≡ 0) → size F x ≤ b -ₙ k
      go (yes e) = omega arith
      go (no e) = omega (arith, size_shift F k x (omega arith))

  -- x^k times x by a product, so that the ring's laws apply
  shift_product : (k : ℕ) (x : Polynomial F) → shift F k x ≡ shift F k 𝟙 * x
  shift_product k x = ap (shift F k) (sym (one_mul (polynomials F) x)) ∙ shift_mul F k 𝟙 x

  module _ {n W : ℕ} {ω : ℕ → ℕ} {H : ℕ → K} {v : ℕ → Polynomial F} (A : Flat n W ω H v) where
    -- the pivot, by its coordinate and degree
    flat_pivot_at : (q e : ℕ) → q < n → ¬ (H (flat W q e) ≡ 𝟎) → ((x : ℕ) → flat W q e < x → H x ≡ 𝟎)
        → Pivot (sized F) n ω v q (suc e)
    flat_pivot_at q e hq ne z = record {
      inside = hq;
      positive = positive;
      reached = omega (arith, exact, size_shift F (ω q) (v q) positive);
      before = λ i h. omega (
        arith,
        size_shift_le (ω i) e (v i) (holds_size F (A.lane i (omega arith)) e
            (λ j l. z (flat W i j) (flat_later W q i e j (omega (arith, A.lanes)) h l))),
      );
      all = λ i h. size_shift_le (ω i) (suc e) (v i) (holds_size F (A.lane i h) (suc e) (λ j l. z (flat W i j) (above i j l)));
    }
      where
        above : (i j : ℕ) → suc e ≤ j → flat W q e < flat W i j
        above i j l = flat_above W q i e j (omega (arith, A.lanes)) l

        exact : size F (shift F (ω q) (v q)) ≡ suc e
        exact = holds_size_exact F (A.lane q hq) e ne (λ j l. z (flat W q j) (above q j l))

        zero_shift : v q ≡ 𝟘 → shift F (ω q) (v q) ≡ 𝟘
        zero_shift y = ap (shift F (ω q)) y ∙ shift_product (ω q) 𝟘 ∙ mul_zero (polynomials F) (shift F (ω q) 𝟙)

        positive : 0 < size F (v q)
        positive = size_positive (sized F) (v q)
            (λ y. absurd (omega (arith, exact, size_of_zero (sized F) (shift F (ω q) (v q)) (zero_shift y))))

    -- the last index l that is not zero is the pivot: the coordinate by its lane, the weighted degree by its row
    pub flat_pivot : (l : ℕ) → 0 < W → ¬ (H l ≡ 𝟎) → ((x : ℕ) → l < x → H x ≡ 𝟎)
        → Pivot (sized F) n ω v (W -ₙ suc (l % W)) (suc (l / W))
    flat_pivot l h_W ne z =
        flat_pivot_at q e (inside (dec_lt q n)) (λ y. ne (ap H (sym place) ∙ y)) (λ x h. z x (omega (arith, place)))
      where
        q : ℕ
        q = W -ₙ suc (l % W)

        e : ℕ
        e = l / W

        place : flat W q e ≡ l
        place = omega (arith, div-add-mod' l W, mod-lt l h_W)

        inside : Dec (q < n) → q < n
        inside (yes h) = h
        inside (no h) = absurd (ne (ap H (sym place) ∙ A.beside q e (omega arith) (omega arith)))

    -- an array of zeros
    pub flat_zero : ((x : ℕ) → H x ≡ 𝟎) → Vanishes (polynomials F) n v
    flat_zero z i h = size_none F (v i)
        (omega (arith, size_shift_le (ω i) 0 (v i) (holds_size F (A.lane i h) 0 (λ j l. z (flat W i j)))))

  -- a step on the array, from degree k on, is a step on the block
  module _ {n W : ℕ} {ω : ℕ → ℕ} {H U H' : ℕ → K} {h u : ℕ → Polynomial F} (a : K) (k : ℕ)
      (A : Flat n W ω H h) (B : Flat n W ω U u)
      (upper : (x : ℕ) → H' (k *ₙ W +ₙ x) ≡ H (k *ₙ W +ₙ x) ⊕ (⊝ (a ⊗ U x))) (lower : (x : ℕ) → x < k *ₙ W → H' x ≡ H x) where
    raised : (i e : ℕ) → flat W i (k +ₙ e) ≡ k *ₙ W +ₙ flat W i e
    raised i e = omega arith

    lane_upper : (i e : ℕ) → H' (flat W i (k +ₙ e)) ≡ H (flat W i (k +ₙ e)) ⊕ (⊝ (a ⊗ U (flat W i e)))
    lane_upper i e = ap H' (raised i e) ∙ upper (flat W i e) ∙ ap (λ x. H x ⊕ (⊝ (a ⊗ U (flat W i e)))) (sym (raised i e))

    lane_lower : (i e : ℕ) → i < W → e < k → H' (flat W i e) ≡ H (flat W i e)
    lane_lower i e hi h = lower (flat W i e) (omega (arith, mul-le-mul_right W h))

    -- x^(ω i)·(h - m·u) = x^(ω i)·h - m·x^(ω i)·u
    through : (i : ℕ) → shift F (ω i) (h i) + (- (monomial F a k * shift F (ω i) (u i)))
        ≡ shift F (ω i) (h i + (- (monomial F a k * u i)))
    through i =
        ap₂ (λ x y. x + (- (monomial F a k * y))) (shift_product (ω i) (h i)) (shift_product (ω i) (u i))
        ∙ identity (polynomials F) (shift F (ω i) 𝟙 ∷ h i ∷ monomial F a k ∷ u i ∷ [])
        (λ ρ qs qh qm qu. search quotes depth 16) refl
        ∙ sym (shift_product (ω i) (h i + (- (monomial F a k * u i))))

    beside_step : (i e : ℕ) → n ≤ i → i < W → Dec (k ≤ e) → H' (flat W i e) ≡ 𝟎
    beside_step i e hn hi (no l) = lane_lower i e hi (omega arith) ∙ A.beside i e hn hi
    beside_step i e hn hi (yes l) =
        let s : e ≡ k +ₙ (e -ₙ k) = omega arith in
        ap (λ x. H' (flat W i x)) s
        ∙ lane_upper i (e -ₙ k)
        ∙ ap₂ (λ x y. x ⊕ (⊝ (a ⊗ y))) (A.beside i (k +ₙ (e -ₙ k)) hn hi) (B.beside i (e -ₙ k) hn hi)
        ∙ identity F.ring (a ∷ []) (λ ρ qa. search quotes depth 16) refl

    pub flat_step : Flat n W ω H' (λ i. h i + (- (monomial F a k * u i)))
    flat_step = record {
      lanes = A.lanes;
      lane = λ i hi. subst (Holds F (λ e. H' (flat W i e))) (through i)
          (holds_step F a k (A.lane i hi) (B.lane i hi) (lane_upper i) (λ e l. lane_lower i e (omega (arith, A.lanes)) l));
      beside = λ i e hn hi. beside_step i e hn hi (dec_le k e);
    }

  -- the block that an array holds, read from its lanes: zero from len·W on, beside the block, and below the weights
  module _ (n W : ℕ) (ω : ℕ → ℕ) (H : ℕ → K) (len : ℕ) (lanes : n ≤ W) (high : (x : ℕ) → len *ₙ W ≤ x → H x ≡ 𝟎)
      (beside : (i e : ℕ) → n ≤ i → i < W → H (flat W i e) ≡ 𝟎) (below : (i e : ℕ) → i < n → e < ω i → H (flat W i e) ≡ 𝟎) where
    abbrev pub block : ℕ → Polynomial F
    block i = read F len (λ k. H (flat W i (ω i +ₙ k)))

    pub read_flat : Flat n W ω H block
    read_flat = record {
      lanes = lanes;
      lane = λ i h. holds_shift F (ω i)
          (read_holds F len (λ k. H (flat W i (ω i +ₙ k))) (λ k l. high (flat W i (ω i +ₙ k)) (beyond i k l)))
          (λ e l. below i e h l);
      beside = beside;
    }
      where
        beyond : (i k : ℕ) → len ≤ k → len *ₙ W ≤ flat W i (ω i +ₙ k)
        beyond i k l = let g : len ≤ ω i +ₙ k = omega arith in omega (arith, mul-le-mul_right W g)
