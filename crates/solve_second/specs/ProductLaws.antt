-- Minus f, times words in lanes, taken off zeros: f times each lane.
use Rattle.std.specs.Prelude.{ℕ, ◌+◌, ◌-◌, ◌*◌, ◌%◌, ◌<◌, ◌≤◌, ◌≡◌, refl, List, [], ◌∷◌, length, get_or}
use Rattle.std.proofs.Common.{sym, ◌∙◌, ap, subst, ⊎_elim, zero-add, mul-le-mul_right, arith}
use Rattle.std.proofs.Math.Nat.{zero-mod}
use Rattle.std.proofs.Math.ListN.{get_or-eq_default}
use Rattle.ring.specs.Ring.{mul_zero}
use Rattle.ring.specs.Identity.{quotes, identity}
use Rattle.algebra.specs.Field.{Field}
use Rattle.algebra.specs.Polynomial.{Polynomial, polynomials, coefficients, coefficients_zero}
use Rattle.algebra.specs.Expressions.{shift, shift_mul}
use Rattle.modular.specs.Prime.{Prime}
use Rattle.modular.specs.Modulo.{modulo}
use Rattle.modular.specs.Residue.{Residue, residues}
use Rattle.vector.specs.Bound.{AtMost, Reducible, at_most_reducible}
use Rattle.vector.specs.Stored.{stored, length_stored, stored_inside, below_or_not}
use Rattle.reduction.specs.Holds.{Holds}
use Rattle.reduction.specs.Flat.{Flat, flat}
use Rattle.solve_lattice.specs.Word.{words}
use Rattle.solve_lattice.specs.Memory.{Sums}
use Rattle.solve_lattice.specs.Range.{words_zero}
use Rattle.solve_descent.specs.Held.{one_lane}
use Rattle.solve_descent.specs.Product.{less, TakesProduct}
use Rattle.solve_lattice.specs.Room.{product_words, block_words, lanes, most_places}
use Rattle.solve_second.specs.Product.{BlockMultiplied, Multiplied}
use Rattle.solve_second.specs.Negated.{negated_read}
use Rattle.solve_second.specs.Reduced.{reduced_below, reduced_words}

-- x·(x^k·v) = x^k·(x·v)
shift_times : {K : Type 0} (F : Field K) (k : ℕ) (x v : Polynomial F)
    → (polynomials F).mul x (shift F k v) ≡ shift F k ((polynomials F).mul x v)
shift_times F k x v =
    (polynomials F).mul_comm x (shift F k v)
    ∙ sym (shift_mul F k v x)
    ∙ ap (shift F k) ((polynomials F).mul_comm v x)

-- an area that was cleared
module _ (N : ℕ) (t t₀ : List ℕ) (clears : t₀ ≡ stored (λ j. 0) t 0 N) where
  pub cleared_length : length t₀ ≡ length t
  cleared_length = ap length clears ∙ length_stored (λ j. 0) t 0 N

  pub cleared_none : length t ≡ N → AtMost 0 t₀
  cleared_none length_is i =
      ⊎_elim
      (λ lt. omega (
        arith,
        ap (λ j. get_or t₀ j 0) (zero-add i),
        ap (λ l. get_or l (0 + i) 0) clears,
        stored_inside (λ j. 0) t 0 N i (omega arith) lt,
      ))
      (λ ge. let none : get_or t₀ i 0 ≡ 0 = get_or-eq_default t₀ 0 (omega (arith, cleared_length)) in omega arith)
      (below_or_not i N)

-- the sums of a product fit, and `divide` takes them
pub product_reducible : (p n N : ℕ) (t : List ℕ) → n ≤ block_words → AtMost (0 + n * (p * p)) t → Reducible p t N
product_reducible p n N t few most =
    at_most_reducible (0 + n * (p * p)) p t N (omega (arith, mul-le-mul_right (p * p) few)) most

pub product_sums : {p : ℕ} {f : List ℕ} {n : ℕ} {block : List ℕ} {m : ℕ} {out : List ℕ} → BlockMultiplied p f n block m out
    → Sums p most_places out
product_sums {p} done i = omega (arith, done.bound i)

-- f, its first n words, negated in `minus`; t is clear, t₁ what is left when the product is taken off
module _ {p : ℕ} (prime₀ : Prime p) (w : ℕ) (h minus f : List ℕ) (n : ℕ) (s : List ℕ) (m N : ℕ) (t t₁ : List ℕ)
    (room : n ≤ length h) (fits : n * w + m ≤ N + w) (whole : length t ≡ N) (clear : AtMost 0 t)
    (stores : minus ≡ stored (λ j. (modulo p).neg (get_or f j 0 % p)) h 0 n) (T : TakesProduct p w t minus 0 1 n s 0 m t₁)
    (prime : Prime p) (x : Polynomial (residues p prime)) (A : Holds (residues p prime) (words p prime f 0 n) x) where
  cleared : (j : ℕ) → words p prime t 0 N j ≡ (residues p prime).ring.zero
  cleared j = words_zero p prime t 0 N 0
      (λ i ge lt. let none : get_or t (0 + i) 0 ≡ 0 = omega (arith, clear (0 + i)) in ap (λ z. z % p) none ∙ zero-mod p)
      j (omega arith)

  nothing : (H : ℕ → Residue p) → ((e : ℕ) → H e ≡ (residues p prime).ring.zero) → Holds (residues p prime) H
      (polynomials (residues p prime)).zero
  nothing H z = record { at = λ e. coefficients_zero (residues p prime) e ∙ sym (z e) }

  less_negated : (y z : Polynomial (residues p prime)) → y ≡ (polynomials (residues p prime)).neg x
      → less p prime (polynomials (residues p prime)).zero y z ≡ (polynomials (residues p prime)).mul x z
  less_negated y z e =
      ap (λ u. less p prime (polynomials (residues p prime)).zero u z) e
      ∙ identity (polynomials (residues p prime)) (x ∷ z ∷ []) (λ ρ qx qz. search quotes depth 16) refl

  pub product_lane : (i : ℕ) → i < w → (z : Polynomial (residues p prime))
      → Holds (residues p prime) (λ e. words p prime s 0 m (flat w i e)) z
      → Holds (residues p prime) (λ e. words p prime t₁ 0 N (flat w i e)) ((polynomials (residues p prime)).mul x z)
  product_lane i lane z B =
      subst (Holds (residues p prime) (λ e. words p prime t₁ 0 N (flat w i e)))
      (less_negated _ z (negated_read prime₀ h minus f n stores room prime x A))
      (T.holds N fits (omega (arith, whole)) prime i lane (polynomials (residues p prime)).zero z
      (nothing _ (λ e. cleared (flat w i e))) B)

  pub product_flat : (rows : ℕ) (ω : ℕ → ℕ) (v : ℕ → Polynomial (residues p prime))
      → Flat (residues p prime) rows w ω (words p prime s 0 m) v
      → Flat (residues p prime) rows w ω (words p prime t₁ 0 N) (λ i. (polynomials (residues p prime)).mul x (v i))
  product_flat rows ω v B = record {
    lanes = B.lanes;
    lane = λ i lt. subst (Holds (residues p prime) (λ e. words p prime t₁ 0 N (flat w i e)))
        (shift_times (residues p prime) (ω i) x (v i)) (product_lane i (omega (arith, B.lanes)) _ (B.lane i lt));
    beside = λ i e out lane.
        sym ((product_lane i lane (polynomials (residues p prime)).zero (nothing _ (λ d. B.beside i d out lane))).at e)
        ∙ ap (λ y. coefficients (residues p prime) y e) (mul_zero (polynomials (residues p prime)) x)
        ∙ coefficients_zero (residues p prime) e;
  }

pub block_multiplied : {p : ℕ} → Prime p → (h minus f : List ℕ) (n : ℕ) (s : List ℕ) (m : ℕ) (t t₁ : List ℕ) → n ≤ block_words
    → n ≤ length h → n * lanes + m ≤ product_words + lanes → length t ≡ product_words → AtMost 0 t
    → minus ≡ stored (λ j. (modulo p).neg (get_or f j 0 % p)) h 0 n → TakesProduct p lanes t minus 0 1 n s 0 m t₁
    → BlockMultiplied p f n s m t₁
block_multiplied {p} prime₀ h minus f n s m t t₁ few room fits length_is clear stores T = record {
  room = T.same_length ∙ length_is;
  bound = λ i. omega (arith, T.bound 0 clear i, mul-le-mul_right (p * p) few);
  holds = λ prime rows ω x v A B.
      product_flat prime₀ lanes h minus f n s m product_words t t₁ room fits length_is clear stores T prime x A rows ω v B;
}

-- of one lane, t₁ reduced as far as the product reaches
module _ {p : ℕ} (prime₀ : Prime p) (h minus f : List ℕ) (n : ℕ) (s : List ℕ) (m : ℕ) (t t₁ t' : List ℕ) (reach : ℕ)
    (reach_is : reach ≡ n + m - 1) (room : n ≤ length h) (fits : n + m ≤ block_words + 1) (whole : length t ≡ block_words)
    (clear : AtMost 0 t) (stores : minus ≡ stored (λ j. (modulo p).neg (get_or f j 0 % p)) h 0 n)
    (T : TakesProduct p 1 t minus 0 1 n s 0 m t₁) (reduces : t' ≡ stored (λ j. get_or t₁ j 0 % p) t₁ 0 reach) where
  inside : reach ≤ length t₁
  inside = omega (arith, T.same_length)

  others : (i : ℕ) → reach ≤ i → get_or t₁ i 0 < p
  others i far = omega (arith, T.behind i (omega arith), clear i, prime₀.large)

  pub multiplied : Multiplied p f n s m t'
  multiplied = record {
    room = ap length reduces ∙ length_stored (λ j. get_or t₁ j 0 % p) t₁ 0 reach ∙ T.same_length ∙ whole;
    below = reduced_below prime₀ reach t₁ t' reduces inside others;
    holds = λ prime x y A B.
        let C = product_lane prime₀ 1 h minus f n s m block_words t t₁ room (omega arith) whole clear stores T prime x A 0
        (omega arith) y
        (record { at = λ e. B.at e ∙ ap (words p prime s 0 m) (sym (one_lane e)) }) in
        record {
          at = λ e.
              C.at e
              ∙ ap (words p prime t₁ 0 block_words) (one_lane e)
              ∙ reduced_words prime₀ reach t₁ t' reduces inside others prime block_words e;
        };
  }
