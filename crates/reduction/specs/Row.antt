-- L3 transposed: a row that is supported on the pivots of vectors and kills all of them is zero.
use Rattle.std.specs.Prelude.{ℕ, suc, ◌-◌, ◌<◌, ◌≤◌, ◌+◌ as ◌+ₙ◌, ◌≡◌, ◌⊎◌}
use Rattle.std.proofs.Common.{sym, ◌∙◌, ap, subst, inl, inr, arith}
use Rattle.std.proofs.Math.Logic.{ite}
use Rattle.std.proofs.Math.Decide.{ℕ_discrete, dec_lt}
use Rattle.ring.specs.Ring.{Ring}
use Rattle.ring.specs.Sum.{sum, without, sum_out}
use Rattle.algebra.specs.Sized.{Sized, size_of_zero, size_mul_le, size_longer, size_sum}
use Rattle.reduction.specs.Pivot.{Vanishes, Pivot, HasPivot, find_pivot}
use Rattle.reduction.specs.Slots.{Slots, unweighted}

module _ {A : Type 0} {R : Ring A} (S : Sized R) (n : ℕ) where
  open R use {mul as ◌*◌, zero as 𝟘}
  open S use {size, size_zero, size_mul}

  infixl 70 ◌*◌
  -- a sum with one term that is larger than all others
  pub size_sum_leading : (k : ℕ) (f : ℕ → A) → k < n → 0 < size (f k) → ((i : ℕ) → i < n → ¬ (i ≡ k) → size (f i) < size (f k))
      → size (sum R n f) ≡ size (f k)
  size_sum_leading k f h p e =
      ap size (sum_out R n k f h) ∙ size_longer S (f k) (sum R n (without R k f)) (omega (arith, others))
    where
      other : (i : ℕ) → i < n → (d : Dec (i ≡ k)) → size (ite d 𝟘 (f i)) ≤ size (f k) - 1
      other i l (yes q) = omega (arith, size_zero)
      other i l (no q) = omega (arith, e i l q)

      others : size (sum R n (without R k f)) ≤ size (f k) - 1
      others = size_sum S (size (f k) - 1) n (without R k f) (λ i l. other i l (ℕ_discrete i k))

  -- t reaches its greatest size last at l, and v has its pivot there: only the term at l counts in t·v
  module _ (t v : ℕ → A) (l d : ℕ) (P : Pivot S n unweighted v l d) (positive : 0 < size (t l))
      (upto : (j : ℕ) → j < n → size (t j) ≤ size (t l)) (later : (j : ℕ) → j < n → l < j → size (t j) < size (t l)) where
    product : suc (size (t l * v l)) ≡ size (t l) +ₙ size (v l)
    product = size_mul (t l) (v l) positive P.positive

    smaller : (j : ℕ) → j < n → ¬ (j ≡ l) → Dec (j < l) → size (t j * v j) < size (t l * v l)
    smaller j h ne (yes b) =
        let k = size_mul_le S (t j) (v j) (size (t l)) (size (v l) - 1) (upto j h) (omega (arith, P.before j b)) in
        omega (arith, product)
    smaller j h ne (no b) =
        let shorter : size (t j) ≤ size (t l) - 1 = omega (arith, later j h (omega arith)) in
        let k = size_mul_le S (t j) (v j) (size (t l) - 1) (size (v l)) shorter (omega (arith, P.all j h)) in
        omega (arith, product)

    pub row_size : suc (size (sum R n (λ j. t j * v j))) ≡ size (t l) +ₙ size (v l)
    row_size = omega (
      arith,
      size_sum_leading l (λ j. t j * v j) P.inside (omega (arith, product)) (λ j h ne. smaller j h ne (dec_lt j l)),
      product,
    )

    row_leading : 0 < size (sum R n (λ j. t j * v j))
    row_leading = omega (arith, row_size, product, P.positive)

  -- the last entry of greatest size
  pub record Last (t : ℕ → A) : Type 0 where
    pub at : ℕ
    pub inside : at < n
    pub positive : 0 < size (t at)
    pub upto : (j : ℕ) → j < n → size (t j) ≤ size (t at)
    pub later : (j : ℕ) → j < n → at < j → size (t j) < size (t at)

  pub find_last : (t : ℕ → A) → Last t ⊎ Vanishes R n t
  find_last t = go (find_pivot S unweighted n (λ i. t (n - suc i)))
    where
      back : (q : ℕ) → q < n → n - suc (n - suc q) ≡ q
      back q h = omega arith

      go : HasPivot S unweighted n (λ i. t (n - suc i)) ⊎ Vanishes R n (λ i. t (n - suc i)) → Last t ⊎ Vanishes R n t
      go (inr z) = inr (λ q h. ap t (sym (back q h)) ∙ z (n - suc q) (omega arith))
      go (inl x) =
          let L = x.pivot in
          inl record {
            at = n - suc x.at;
            inside = omega (arith, L.inside);
            positive = L.positive;
            upto = λ j h. subst (λ i. size (t i) ≤ size (t (n - suc x.at))) (back j h)
                (omega (arith, L.all (n - suc j) (omega arith), L.reached));
            later = λ j h k. subst (λ i. size (t i) < size (t (n - suc x.at))) (back j h)
                (omega (arith, L.before (n - suc j) (omega arith), L.reached, L.positive));
          }

  -- L3 transposed: the last entry of greatest size is the pivot of the row read backwards
  pub row_zero : (U : Slots A) (t : ℕ → A) → ((q : ℕ) → q < n → 0 < size (t q) → Pivot S n unweighted (U.at q) q (U.size q))
      → ((q : ℕ) → q < n → 0 < size (t q) → sum R n (λ j. t j * U.at q j) ≡ 𝟘) → Vanishes R n t
  row_zero U t pivots killed = go (find_pivot S unweighted n (λ i. t (n - suc i)))
    where
      back : (q : ℕ) → q < n → n - suc (n - suc q) ≡ q
      back q h = omega arith

      go : HasPivot S unweighted n (λ i. t (n - suc i)) ⊎ Vanishes R n (λ i. t (n - suc i)) → Vanishes R n t
      go (inr z) q h = ap t (sym (back q h)) ∙ z (n - suc q) (omega arith)
      go (inl x) q h = absurd (omega (arith, row_leading t (U.at l) l (U.size l) P L.positive upto later, none))
        where
          l : ℕ
          l = n - suc x.at

          L : Pivot S n unweighted (λ i. t (n - suc i)) x.at x.size
          L = x.pivot

          inside : l < n
          inside = omega (arith, L.inside)

          P : Pivot S n unweighted (U.at l) l (U.size l)
          P = pivots l inside L.positive

          upto : (j : ℕ) → j < n → size (t j) ≤ size (t l)
          upto j h = subst (λ i. size (t i) ≤ size (t l)) (back j h) (omega (arith, L.all (n - suc j) (omega arith), L.reached))

          later : (j : ℕ) → j < n → l < j → size (t j) < size (t l)
          later j h k = subst (λ i. size (t i) < size (t l)) (back j h)
              (omega (arith, L.before (n - suc j) (omega arith), L.reached, L.positive))

          none : size (sum R n (λ j. t j * U.at l j)) ≡ 0
          none = size_of_zero S (sum R n (λ j. t j * U.at l j)) (killed l inside L.positive)
