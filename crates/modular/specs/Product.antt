-- The coefficients of a product modulo p as sums of numbers that are reduced once, and the product as its rows added up.
use Rattle.std.specs.Prelude.{◌≡◌}
use Rattle.std.proofs.Math.Path.{sym, ap, ap₂}
use Rattle.std.proofs.Common.{◌∙◌}
use mathlib.Core.List.{List, [], ◌∷◌}
use Prim.Native.Nat.{ℕ, zero, suc, ◌+◌, ◌-◌, ◌*◌, ◌%◌, ◌≤◌, ◌<◌}
use Rattle.std.proofs.Math.Nat.{zero-mod, add-mod, mul-zero, zero-mul, mul-le-mul}
use native.Mathlib.Omega.{arith}
use Rattle.std.proofs.Math.ListN.{length}
use Rattle.algebra.specs.Operations.{Operations}
use Rattle.algebra.specs.Coefficients.{cons, coefficient, add, scale, shift, mul}
use Rattle.modular.specs.Modulo.{modulo}
use Rattle.modular.specs.Canonical.{Canonical}
use Rattle.ring.specs.Total.{total, total_ext}
use Rattle.modular.specs.Total.{total_front, total_beyond, total_bound}
use Rattle.modular.specs.Closed.{canonical_nil, canonical_cons, canonical_add, canonical_scale, canonical_shift}
use Rattle.modular.specs.Closed.{canonical_multiple, canonical_mul}
use Rattle.modular.specs.Coefficientwise.{coefficient_nil, coefficient_beyond, coefficient_below, canonical_same}
use Rattle.modular.specs.Coefficientwise.{coefficient_cons_zero, coefficient_cons_suc, coefficient_add, coefficient_scale}
use Rattle.modular.specs.Coefficientwise.{coefficient_shift_below, coefficient_shift_from, coefficient_multiple}

-- what the row i, f_i·x^i·g, has at the power n
unfoldable pub row_at : ℕ → List ℕ → List ℕ → ℕ → ℕ → ℕ
row_at p f g n i = coefficient (modulo p) f i * coefficient (modulo p) (shift (modulo p) i g) n

-- the first k rows added up
unfoldable pub rows : ℕ → List ℕ → List ℕ → ℕ → List ℕ
rows p f g zero = []
rows p f g (suc k) = add (modulo p) (rows p f g k) (shift (modulo p) k (scale (modulo p) (coefficient (modulo p) f k) g))

module _ (p : ℕ) (positive : 0 < p) where
  abbrev o : Operations ℕ
  o = modulo p

  -- the rows behind the first, from those without it
  later_rows : (a : ℕ) (f g : List ℕ) → ((m : ℕ) → coefficient o (mul o f g) m ≡ total (length f) (row_at p f g m) % p)
      → (n : ℕ) → coefficient o (cons o 0 (mul o f g)) n ≡ total (length f) (λ i. row_at p (a ∷ f) g n (suc i)) % p
  unfolding modulo coefficient shift row_at total
  later_rows a f g e zero =
      coefficient_cons_zero p 0 (mul o f g)
      ∙ sym (ap (λ x. x % p) (total_beyond 0 (length f) (λ i. row_at p (a ∷ f) g 0 (suc i)) none (omega arith)) ∙ zero-mod p)
    where
      none : (i : ℕ) → 0 ≤ i → row_at p (a ∷ f) g 0 (suc i) ≡ 0
      none i h =
          ap (λ x. coefficient o f i * x) (coefficient_shift_below p (suc i) g 0 (omega arith))
          ∙ mul-zero (coefficient o f i)
  later_rows a f g e (suc n) =
      coefficient_cons_suc p 0 (mul o f g) n
      ∙ e n
      ∙ ap (λ x. x % p) (total_ext (length f) (row_at p f g n) (λ i. row_at p (a ∷ f) g (suc n) (suc i))
      (λ i h. ap (λ x. coefficient o f i * x) (sym (coefficient_cons_suc p 0 (shift o i g) n))))

  -- all rows, reduced once
  pub coefficient_mul_rows : (f g : List ℕ) (n : ℕ) → coefficient o (mul o f g) n ≡ total (length f) (row_at p f g n) % p
  unfolding modulo coefficient shift row_at total mul
  coefficient_mul_rows [] g n = sym (zero-mod p)
  coefficient_mul_rows (a ∷ f) g n =
      coefficient_add p positive (scale o a g) (cons o 0 (mul o f g)) n
      (canonical_scale p positive a g) (canonical_cons p 0 (mul o f g) positive (canonical_mul p positive f g))
      ∙ ap₂ (λ x y. (x + y) % p) (coefficient_scale p a g n) (later_rows a f g (coefficient_mul_rows f g) n)
      ∙ sym (add-mod (a * coefficient o g n) (total (length f) (λ i. row_at p (a ∷ f) g n (suc i))) p)
      ∙ ap (λ x. x % p) (sym (total_front (length f) (row_at p (a ∷ f) g n)))

  -- the sum over i + j = n
  pub coefficient_mul : (f g : List ℕ) (n : ℕ)
      → coefficient o (mul o f g) n ≡ total (suc n) (λ i. coefficient o f i * coefficient o g (n - i)) % p
  unfolding row_at
  coefficient_mul f g n = coefficient_mul_rows f g n ∙ ap (λ x. x % p) (
      sym (total_beyond (length f) (length f + suc n) (row_at p f g n) behind_f (omega arith))
      ∙ total_beyond (suc n) (length f + suc n) (row_at p f g n) behind_n (omega arith)
      ∙ total_ext (suc n) (row_at p f g n) (λ i. coefficient o f i * coefficient o g (n - i)) inside)
    where
      behind_f : (i : ℕ) → length f ≤ i → row_at p f g n i ≡ 0
      behind_f i h = ap (λ x. x * coefficient o (shift o i g) n) (coefficient_beyond p f i h) ∙ zero-mul _

      behind_n : (i : ℕ) → n < i → row_at p f g n i ≡ 0
      behind_n i h = ap (λ x. coefficient o f i * x) (coefficient_shift_below p i g n h) ∙ mul-zero (coefficient o f i)

      inside : (i : ℕ) → i < suc n → row_at p f g n i ≡ coefficient o f i * coefficient o g (n - i)
      inside i h =
          let split : n ≡ i + (n - i) = omega arith in
          ap (λ x. coefficient o f i * x) (ap (coefficient o (shift o i g)) split ∙ coefficient_shift_from p i g (n - i))

  -- how large a sum can grow before it is reduced
  pub rows_bound : (f g : List ℕ) → Canonical p f → Canonical p g → (n k : ℕ)
      → total k (row_at p f g n) ≤ k * ((p - 1) * (p - 1))
  unfolding row_at
  rows_bound f g hf hg n k = total_bound k ((p - 1) * (p - 1)) (row_at p f g n) (λ i h. mul-le-mul
      (le_pred (coefficient_below p positive f i hf))
      (le_pred (coefficient_below p positive (shift o i g) n (canonical_shift p positive i g hg))))
    where
      le_pred : {a : ℕ} → a < p → a ≤ p - 1
      le_pred h = omega arith

  -- row by row
  pub canonical_rows : (f g : List ℕ) (k : ℕ) → Canonical p (rows p f g k)
  unfolding rows
  canonical_rows f g zero = canonical_nil p
  canonical_rows f g (suc k) =
      canonical_add p positive (rows p f g k) _ (canonical_rows f g k) (canonical_multiple p positive k (coefficient o f k) g)

  pub coefficient_rows : (f g : List ℕ) (k n : ℕ) → coefficient o (rows p f g k) n ≡ total k (row_at p f g n) % p
  unfolding rows row_at total
  coefficient_rows f g zero n = coefficient_nil p n ∙ sym (zero-mod p)
  coefficient_rows f g (suc k) n =
      coefficient_add p positive (rows p f g k) _ n (canonical_rows f g k) (canonical_multiple p positive k (coefficient o f k) g)
      ∙ ap₂ (λ x y. (x + y) % p) (coefficient_rows f g k n) (coefficient_multiple p k (coefficient o f k) g n)
      ∙ sym (add-mod (total k (row_at p f g n)) (row_at p f g n k) p)

  pub mul_rows : (f g : List ℕ) → mul o f g ≡ rows p f g (length f)
  mul_rows f g =
      canonical_same p (mul o f g) (rows p f g (length f)) (canonical_mul p positive f g) (canonical_rows f g (length f))
      (λ n. coefficient_mul_rows f g n ∙ sym (coefficient_rows f g (length f) n))
