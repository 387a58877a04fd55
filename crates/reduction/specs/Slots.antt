-- Slots: for each coordinate q below n at most one vector, whose block has its pivot there. A vector's coordinates below n are
-- its block, coordinate n is its tail.
use Rattle.std.specs.Prelude.{ℕ, suc, ◌<◌, ◌≡◌, refl}
use Rattle.std.proofs.Common.{sym, ap, subst, arith}
use Rattle.std.proofs.Math.Decide.{ℕ_discrete}
use Rattle.ring.specs.Ring.{Ring}
use Rattle.algebra.specs.Sized.{Sized}
use Rattle.reduction.specs.Replace.{replace, replace_here, replace_other, replace_elim, extend, extend_below}
use Rattle.reduction.specs.Pivot.{Pivot, pivot_ext}

pub record Slots (A : Type 0) : Type 0 where
  pub at : ℕ → ℕ → A
  -- the weighted size of the block, 0 where the slot is empty
  pub size : ℕ → ℕ

-- each block has its pivot at its slot's place
abbrev pub Filled : {A : Type 0} {R : Ring A} (S : Sized R) (n : ℕ) (ω : ℕ → ℕ) → Slots A → Type 0
Filled S n ω U = (q : ℕ) → q < n → 0 < U.size q → Pivot S n ω (U.at q) q (U.size q)

-- all weights zero
abbrev pub unweighted : ℕ → ℕ
unweighted i = 0

-- U with the vector v of weighted size d in slot p
abbrev pub put : {A : Type 0} → Slots A → ℕ → (ℕ → A) → ℕ → Slots A
put U p v d = record { at = replace U.at p v; size = replace U.size p d }

-- U with the tails g
abbrev pub tailed : {A : Type 0} → ℕ → Slots A → (ℕ → A) → Slots A
tailed n U g = record { at = λ q. extend n (U.at q) (g q); size = U.size }

-- the same slots, as far as anything looks at them
pub record Same {A : Type 0} (n : ℕ) (U U' : Slots A) : Type 0 where
  pub sizes : (q : ℕ) → q < n → U.size q ≡ U'.size q
  pub vectors : (q k : ℕ) → q < n → 0 < U.size q → k < suc n → U.at q k ≡ U'.at q k

-- the same blocks, whatever their tails
pub record SameBlocks {A : Type 0} (n : ℕ) (U U' : Slots A) : Type 0 where
  pub sizes : (q : ℕ) → q < n → U.size q ≡ U'.size q
  pub vectors : (q k : ℕ) → q < n → 0 < U.size q → k < n → U.at q k ≡ U'.at q k

-- the same slots but for the one at p
pub record SameBut {A : Type 0} (n p : ℕ) (U U' : Slots A) : Type 0 where
  pub inside : p < n
  pub sizes : (q : ℕ) → q < n → ¬ (q ≡ p) → U.size q ≡ U'.size q
  pub vectors : (q k : ℕ) → q < n → ¬ (q ≡ p) → 0 < U.size q → k < suc n → U.at q k ≡ U'.at q k

pub put_here : {A : Type 0} (U : Slots A) (p : ℕ) (v : ℕ → A) (d k : ℕ) → (put U p v d).at p k ≡ v k
put_here U p v d k = ap (λ x. x k) (replace_here U.at p v)

-- the new vector as long as the old one
pub put_sizes : {A : Type 0} (U : Slots A) (p : ℕ) (v : ℕ → A) (q : ℕ) → U.size q ≡ (put U p v (U.size p)).size q
put_sizes U p v q = replace_elim (λ q x. U.size q ≡ x) U.size p (U.size p) refl q (λ r. refl)

module _ {A : Type 0} {n : ℕ} where
  pub same_refl : (U : Slots A) → Same n U U
  same_refl U = record { sizes = λ q h. refl; vectors = λ q k h p l. refl }

  pub same_sym : {U U' : Slots A} → Same n U U' → Same n U' U
  same_sym e = record {
    sizes = λ q h. sym (e.sizes q h);
    vectors = λ q k h p l. sym (e.vectors q k h (omega (arith, e.sizes q h)) l);
  }

  pub same_blocks : {U U' : Slots A} → Same n U U' → SameBlocks n U U'
  same_blocks e = record { sizes = e.sizes; vectors = λ q k h p l. e.vectors q k h p (omega arith) }

  pub blocks_sym : {U U' : Slots A} → SameBlocks n U U' → SameBlocks n U' U
  blocks_sym e = record {
    sizes = λ q h. sym (e.sizes q h);
    vectors = λ q k h p l. sym (e.vectors q k h (omega (arith, e.sizes q h)) l);
  }

  pub same_but_sym : {p : ℕ} {U U' : Slots A} → SameBut n p U U' → SameBut n p U' U
  same_but_sym e = record {
    inside = e.inside;
    sizes = λ q h ne. sym (e.sizes q h ne);
    vectors = λ q k h ne p l. sym (e.vectors q k h ne (omega (arith, e.sizes q h ne)) l);
  }

  pub put_same : (U : Slots A) (p : ℕ) (v : ℕ → A) (d : ℕ) → p < n → SameBut n p U (put U p v d)
  put_same U p v d h = record {
    inside = h;
    sizes = λ q l ne. sym (replace_other U.size p d q ne);
    vectors = λ q k l ne f g. ap (λ x. x k) (sym (replace_other U.at p v q ne));
  }

  module _ {R : Ring A} {S : Sized R} {ω : ℕ → ℕ} where
    pub filled_blocks : {U U' : Slots A} → SameBlocks n U U' → Filled S n ω U → Filled S n ω U'
    filled_blocks {U} {U'} e full q h f =
        let f' : 0 < U.size q = omega (arith, e.sizes q h) in
        subst (Pivot S n ω (U'.at q) q) (e.sizes q h) (pivot_ext (λ i l. e.vectors q i h f' l) (full q h f'))

    pub filled_same : {U U' : Slots A} → Same n U U' → Filled S n ω U → Filled S n ω U'
    filled_same e = filled_blocks (same_blocks e)

    pub filled_tailed : {U : Slots A} (g : ℕ → A) → Filled S n ω U → Filled S n ω (tailed n U g)
    filled_tailed {U} g full q h f = pivot_ext (λ i l. sym (extend_below n (U.at q) (g q) i l)) (full q h f)

    pub filled_but : {p : ℕ} {U U' : Slots A} → SameBut n p U U' → Filled S n ω U → Pivot S n ω (U'.at p) p (U'.size p)
        → Filled S n ω U'
    filled_but {p} {U} {U'} e full P q h f = go (ℕ_discrete q p)
      where
        go : Dec (q ≡ p) → Pivot S n ω (U'.at q) q (U'.size q)
        go (yes r) = subst (λ x. Pivot S n ω (U'.at x) x (U'.size x)) (sym r) P
        go (no r) =
            let f' : 0 < U.size q = omega (arith, e.sizes q h r) in
            subst (Pivot S n ω (U'.at q) q) (e.sizes q h r)
            (pivot_ext (λ i l. e.vectors q i h r f' (omega arith)) (full q h f'))
