-- `take_column`: what is stored, and what is left of the block.
use Prim.Native.Nat.{ℕ, ◌+◌, ◌-◌, ◌*◌, ◌%◌, ◌<◌, ◌≤◌, min}
use mathlib.Core.Path.{◌≡◌, refl, sym, ◌∙◌, ap, ap₂, subst}
use mathlib.Core.Logic.{◌⊎◌}
use mathlib.Core.List.{List, [], ◌∷◌}
use native.Mathlib.Nat.{mod-lt, mod-eq_of_lt, zero-add, mul-le-mul_right}
use native.Mathlib.Omega.{arith}
use native.Mathlib.Decide.{dec_lt}
use lib.ListN.{length, get_or}
use Rattle.ring.specs.Ring.{one_mul, neg_zero}
use Rattle.ring.specs.Identity.{quotes, identity}
use Rattle.algebra.specs.Field.{Field}
use Rattle.algebra.specs.Polynomial.{Polynomial, polynomials, coefficients}
use Rattle.algebra.specs.Polynomial.{equal_coefficients, coefficients_zero, coefficients_neg}
use Rattle.algebra.specs.Expressions.{shift, shift_mul}
use Rattle.modular.specs.Prime.{Prime}
use Rattle.modular.specs.Modulo.{modulo}
use Rattle.modular.specs.Residue.{residues}
use Rattle.residue.specs.Below.{neg_below}
use Rattle.vector.specs.Reduced.{polynomial}
use Rattle.vector.specs.Stored.{stored, length_stored, stored_inside, stored_all}
use Rattle.reduction.specs.Holds.{Holds, read, read_at, read_beyond}
use Rattle.reduction.specs.Flat.{Flat, flat}
use Rattle.solve_lattice.specs.Memory.{ZeroFrom, Ends}
use Rattle.solve_lattice.specs.Word.{residue, residue_minus, residue_zero}
use Rattle.solve_lattice.specs.Word.{zero_residue, words, words_inside, words_behind, words_first}
use Rattle.solve_lattice.specs.Range.{words_zero}
use Rattle.solve_lattice.specs.Found.{found_ends}
use Rattle.solve_lattice.specs.Room.{product_words, block_words, tail_words, lanes, most_coefficients}
use Rattle.solve_descent.specs.Read.{read_zeros}
use Rattle.solve_descent.specs.Product.{strided, less, TakesProduct}
use Rattle.solve_descent.specs.Column.{TakesColumn}
use Rattle.solve_descent.specs.Held.{none_held}

module _ {p : ℕ} (prime₀ : Prime p) where
  positive : 0 < p
  positive = omega (arith, prime₀.large)

  -- minus w is zero where w is, and only there
  neg_zero_word : (w : ℕ) → w % p ≡ 0 → (modulo p).neg (w % p) % p ≡ 0
  neg_zero_word w e = zero_residue p prime₀ _
      (residue_minus p prime₀ w ∙ ap (residues p prime₀).ring.neg (residue_zero p prime₀ w e)
      ∙ neg_zero (residues p prime₀).ring)

  neg_positive : (w : ℕ) → 0 < w % p → 0 < (modulo p).neg (w % p) % p
  unfolding modulo
  neg_positive w h =
      let less : p - w % p < p = omega (arith, mod-lt w positive) in
      let more : 0 < p - w % p = omega (arith, mod-lt w positive) in
      omega (arith, mod-eq_of_lt less, mod-eq_of_lt (mod-lt (p - w % p) positive))

  -- what `store_negated` does
  module _ (h h' : List ℕ) (a : ℕ) (y : List ℕ) (n : ℕ) (stores : h' ≡ stored (λ j. (modulo p).neg (get_or y j 0 % p)) h a n)
      (room : a + n ≤ length h) where
    pub stored_word : (j : ℕ) → j < n → get_or h' (a + j) 0 ≡ (modulo p).neg (get_or y j 0 % p)
    stored_word j lt = ap (λ l. get_or l (a + j) 0) stores ∙ stored_inside _ h a n j room lt

    pub stored_length : length h' ≡ length h
    stored_length = ap length stores ∙ length_stored _ h a n

    pub stored_below : ((i : ℕ) → (i < a) ⊎ (a + n ≤ i) → get_or h i 0 < p) → (i : ℕ) → get_or h' i 0 < p
    stored_below = stored_all (λ i w. w < p) _ h h' a n stores room (λ j lt. neg_below p prime₀.large (get_or y j 0 % p))

  module _ (h h' : List ℕ) (a : ℕ) (y : List ℕ) (stores : h' ≡ stored (λ j. (modulo p).neg (get_or y j 0 % p)) h a block_words)
      (room : a + block_words ≤ length h) where
    coordinate_word : (j : ℕ) → j < block_words → get_or h' (a + j) 0 ≡ (modulo p).neg (get_or y j 0 % p)
    coordinate_word = stored_word h h' a y block_words stores room

    stored_ends : (size : ℕ) → size ≡ length (polynomial p y 0 block_words) → Ends p h' a block_words size
    stored_ends size found =
        let E = found_ends p positive y block_words block_words (omega arith) (λ j ge lt. absurd (omega arith)) size found in record {
          within = E.within;
          last = λ some. subst (λ x. 0 < x % p) (sym (coordinate_word (size - 1) (omega (arith, E.within))))
              (neg_positive (get_or y (size - 1) 0) (subst (λ i. 0 < get_or y i 0 % p) (zero-add (size - 1)) (E.last some)));
          behind = λ j ge lt. ap (λ x. x % p) (coordinate_word j lt)
              ∙ neg_zero_word (get_or y j 0) (ap (λ i. get_or y i 0 % p) (sym (zero-add j)) ∙ E.behind j ge lt);
        }

    -- the words stored are those of x
    module _ (zero : ZeroFrom p y 0 tail_words most_coefficients) (prime : Prime p) (x : Polynomial (residues p prime))
        (A : Holds (residues p prime) (words p prime y 0 tail_words) ((polynomials (residues p prime)).neg x)) where
      coefficient_is : (j : ℕ) → coefficients (residues p prime) x j ≡ (residues p prime).ring.neg (words p prime y 0 tail_words j)
      coefficient_is j =
          identity (residues p prime).ring (coefficients (residues p prime) x j ∷ []) (λ ρ qx. search quotes depth 16) refl
          ∙ ap (residues p prime).ring.neg (sym (coefficients_neg (residues p prime) x j) ∙ A.at j)

      coefficient_none : (j : ℕ) → most_coefficients ≤ j → coefficients (residues p prime) x j ≡ (residues p prime).ring.zero
      coefficient_none j ge =
          coefficient_is j
          ∙ ap (residues p prime).ring.neg (words_zero p prime y 0 tail_words most_coefficients zero j ge)
          ∙ neg_zero (residues p prime).ring

      word_is : (j : ℕ) → j < block_words → residue p prime (get_or h' (a + j) 0) ≡ coefficients (residues p prime) x j
      word_is j lt =
          ap (residue p prime) (coordinate_word j lt)
          ∙ residue_minus p prime (get_or y j 0)
          ∙ ap (residues p prime).ring.neg (sym (words_first p prime y tail_words j (omega arith)))
          ∙ sym (coefficient_is j)

      pub coordinate_held : Holds (residues p prime) (words p prime h' a block_words) x
      coordinate_held = record { at = λ j. go j (dec_lt j block_words) }
        where
          go : (j : ℕ) → Dec (j < block_words) → coefficients (residues p prime) x j ≡ words p prime h' a block_words j
          go j (yes lt) = sym (words_inside p prime h' a block_words j lt ∙ word_is j lt)
          go j (no ge) = coefficient_none j (omega arith) ∙ sym (words_behind p prime h' a block_words j (omega arith))

      pub coordinate_read : read (residues p prime) most_coefficients (strided p prime h' a 1) ≡ x
      coordinate_read = equal_coefficients (residues p prime) _ _ (λ j. go j (dec_lt j most_coefficients))
        where
          go : (j : ℕ) → Dec (j < most_coefficients) → coefficients (residues p prime)
              (read (residues p prime) most_coefficients (strided p prime h' a 1)) j ≡ coefficients (residues p prime) x j
          go j (yes lt) =
              let place : a + j * 1 ≡ a + j = omega arith in
              read_at (residues p prime) most_coefficients (strided p prime h' a 1) j lt
              ∙ ap (λ i. residue p prime (get_or h' i 0)) place
              ∙ word_is j (omega arith)
          go j (no ge) = read_beyond (residues p prime) most_coefficients (strided p prime h' a 1) j (omega arith) ∙ sym
              (coefficient_none j (omega arith))

      -- the coefficients from `size` on are 0
      pub coordinate_short : (size terms : ℕ) → size ≡ length (polynomial p y 0 block_words) → terms ≡ min size most_coefficients
          → read (residues p prime) terms (strided p prime h' a 1) ≡ x
      coordinate_short size terms found few =
          sym (read_zeros (residues p prime) terms most_coefficients (strided p prime h' a 1) (omega arith) (λ j ge lt.
          let place : a + j * 1 ≡ a + j = omega arith in
          residue_zero p prime _ (ap (λ i. get_or h' i 0 % p) place
          ∙ (stored_ends size found).behind j (omega arith) (omega arith))))
          ∙ coordinate_read

-- x^k times x by a product
shift_product : {K : Type 0} (F : Field K) (k : ℕ) (x : Polynomial F) → shift F k x ≡ (polynomials F).mul
    (shift F k (polynomials F).one) x
shift_product F k x = ap (shift F k) (sym (one_mul (polynomials F) x)) ∙ shift_mul F k (polynomials F).one x

-- x^k·(v - x·u) = x^k·v - x·(x^k·u)
shift_less : (p : ℕ) (prime : Prime p) (k : ℕ) (v x u : Polynomial (residues p prime))
    → less p prime (shift (residues p prime) k v) x (shift (residues p prime) k u) ≡ shift (residues p prime) k
    (less p prime v x u)
shift_less p prime k v x u =
    ap₂ (λ y z. less p prime y x z) (shift_product (residues p prime) k v) (shift_product (residues p prime) k u)
    ∙ identity (polynomials (residues p prime)) (shift (residues p prime) k (polynomials (residues p prime)).one ∷ v ∷ x ∷ u ∷ [])
    (λ ρ qs qv qx qu. search quotes depth 16) refl
    ∙ sym (shift_product (residues p prime) k (less p prime v x u))

-- the product taken off every lane of a block
module _ {p : ℕ} {t h : List ℕ} {a : ℕ} {columns : List ℕ} {at : ℕ} {t' : List ℕ}
    {terms : ℕ} (T : TakesProduct p lanes t h a 1 terms columns at block_words t') (few : terms ≤ most_coefficients)
    (room : product_words ≤ length t)
    (prime : Prime p) (n : ℕ) (ω : ℕ → ℕ)
    (v u : ℕ → Polynomial (residues p prime)) (x : Polynomial (residues p prime))
    (is : read (residues p prime) terms (strided p prime h a 1) ≡ x)
    (A : Flat (residues p prime) n lanes ω (words p prime t 0 product_words) v)
    (B : Flat (residues p prime) n lanes ω (words p prime columns at block_words) u) where
  lane_after : (i : ℕ) → i < lanes → (y z : Polynomial (residues p prime))
      → Holds (residues p prime) (λ e. words p prime t 0 product_words (flat lanes i e)) y
      → Holds (residues p prime) (λ e. words p prime columns at block_words (flat lanes i e)) z
      → Holds (residues p prime) (λ e. words p prime t' 0 product_words (flat lanes i e)) (less p prime y x z)
  lane_after i lane y z C D = subst
      (λ w. Holds (residues p prime) (λ e. words p prime t' 0 product_words (flat lanes i e)) (less p prime y w z)) is
      (T.holds product_words (omega arith) room prime i lane y z C D)

  abbrev 𝟘 : Polynomial (residues p prime)
  𝟘 = (polynomials (residues p prime)).zero

  nothing : less p prime (polynomials (residues p prime)).zero x (polynomials (residues p prime)).zero ≡ (polynomials
      (residues p prime)).zero
  nothing = identity (polynomials (residues p prime)) (x ∷ []) (λ ρ qx. search quotes depth 16) refl

  pub block_after : Flat (residues p prime) n lanes ω (words p prime t' 0 product_words) (λ i. less p prime (v i) x (u i))
  block_after = record {
    lanes = A.lanes;
    lane = λ i lt. subst (Holds (residues p prime) (λ e. words p prime t' 0 product_words (flat lanes i e)))
        (shift_less p prime (ω i) (v i) x (u i))
        (lane_after i (omega (arith, A.lanes)) _ _ (A.lane i lt) (B.lane i lt));
    beside = λ i e out lane.
        sym ((lane_after i lane 𝟘 𝟘 (none_held p prime (λ f. A.beside i f out lane))
        (none_held p prime (λ f. B.beside i f out lane))).at e)
        ∙ ap (λ y. coefficients (residues p prime) y e) nothing
        ∙ coefficients_zero (residues p prime) e;
  }

-- all steps of `take_column` together
pub column_taken : {p : ℕ} → Prime p → (t h : List ℕ) (a : ℕ) (y columns : List ℕ) (at : ℕ) (t' h' : List ℕ) (size terms : ℕ)
    → length t ≡ product_words → a + block_words ≤ length h → h' ≡ stored (λ j. (modulo p).neg (get_or y j 0 % p)) h a block_words
    → size ≡ length (polynomial p y 0 block_words) → terms ≡ min size most_coefficients
    → TakesProduct p lanes t h' a 1 terms columns at block_words t'
    → TakesColumn p t h a y columns at t' h'
column_taken {p} prime₀ t h a y columns at t' h' size terms length_is room stores found few T = record {
  length_is = T.same_length ∙ length_is;
  room = room;
  bound = λ b small i.
      let most : terms ≤ most_coefficients = omega arith in
      omega (arith, T.bound b small i, mul-le-mul_right (p * p) most);
  stores = stores;
  holds = λ zero prime n ω v u x A B C. record {
    coordinate = coordinate_held prime₀ h h' a y stores room zero prime x C;
    rest = block_after T (omega arith) (omega arith) prime n ω v u x
        (coordinate_short prime₀ h h' a y stores room zero prime x C size terms found few) A B;
  };
}
