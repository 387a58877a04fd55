-- A row of the walk: what is carried and what is still to be added make up the remainder with the row's product, coefficient by
-- coefficient of the entries.
use mathlib.Core.Path.{◌≡◌, refl, sym, ap, ap₂, ◌∙◌, subst}
use mathlib.Core.Logic.{⊎_elim}
use mathlib.Core.List.{List, [], ◌∷◌}
use Prim.Native.Nat.{ℕ, suc, ◌+◌, ◌-◌, ◌*◌, ◌%◌, ◌≤◌, ◌<◌}
use native.Mathlib.Numerals.{add-one}
use native.Mathlib.Nat.{mod-lt, mod-le, mod-mod, add-zero, mul-le-mul_right}
use native.Mathlib.Omega.{arith}
use lib.ListN.{length, get_or, take, drop, drop_of_length-le, get_or-eq_default}
use lib.Seq.{drop-cons, take_all}
use Rattle.algebra.specs.Coefficients.{add, mul, scale, shift, divide, remainder}
use Rattle.modular.specs.Prime.{Prime}
use Rattle.modular.specs.Modulo.{modulo}
use Rattle.modular.specs.Canonical.{Canonical}
use Rattle.modular.specs.Delay.{degree}
use Rattle.modular.specs.Closed.{canonical_shift, canonical_scale, canonical_mul, canonical_remainder}
use Rattle.modular.specs.Length.{length_scale}
use Rattle.modular.specs.Lists.{add_assoc, mul_comm, shift_mul, remainder_short, remainder_add, remainder_factor}
use Rattle.words.specs.Limits.{office}
use Rattle.vector.specs.Reduced.{polynomial, polynomial_same, canonical_reduced}
use Rattle.vector.specs.Size.{length_polynomial}
use Rattle.vector.specs.Stored.{stored, stored_all_first, length_stored, below_or_not}
use Rattle.polynomial_words.specs.Window.{ReducedFrom}
use Rattle.polynomial_words.proofs.Rest.{canonical_drop}
use Rattle.polynomial_words.proofs.Rows.{add_nil, scale_zero}
use Rattle.check_conditions.specs.Walk.{carried_width, carried_words, carried_in, CarriedSums, window_words, take_along}

-- as many products
pub counted : {p n m : ℕ} {l : List ℕ} → n ≡ m → CarriedSums p n l → CarriedSums p m l
counted {p} {n} {m} {l} same = subst (λ k. CarriedSums p k l) same

-- behind the last row all words are reduced
module _ (p : ℕ) (positive : 0 < p) (carried reduced : List ℕ) (room : length carried ≡ carried_words)
    (reduces : reduced ≡ stored (λ x. get_or carried x 0 % p) carried 0 carried_words) where
  pub reduced_below : (x : ℕ) → get_or reduced x 0 < p
  reduced_below =
      stored_all_first (λ i x. x < p) _ carried reduced carried_words reduces (omega (arith, room)) (λ j lt. mod-lt _ positive)
      (λ i ge. let none : get_or carried i 0 ≡ 0 = get_or-eq_default carried 0 (omega (arith, room)) in omega arith)

  pub reduced_sums : {n : ℕ} → CarriedSums p n carried → CarriedSums p n reduced
  reduced_sums {n} sums = record {
    room = ap length reduces ∙ length_stored _ carried 0 carried_words ∙ room;
    small = stored_all_first (λ i x. x ≤ n * (p * p)) _ carried reduced carried_words reduces (omega (arith, room))
        (λ j lt. omega (arith, mod-le (get_or carried j 0) p, sums.small j)) (λ i ge. sums.small i);
  }

  pub reduced_carried : (e j : ℕ) → carried_in p e reduced j ≡ carried_in p e carried j
  reduced_carried e j = polynomial_same p positive reduced carried (j * carried_width) (j * carried_width) e (λ t lt.
      stored_all_first (λ i x. x % p ≡ get_or carried i 0 % p) _ carried reduced carried_words reduces (omega (arith, room))
      (λ i l. mod-mod (get_or carried i 0) p) (λ i ge. refl) (j * carried_width + t))

module _ (p : ℕ) (w : List ℕ) where
  -- what A's coefficients from k on add, where T is x^k·Z_i modulo w
  abbrev pending : List ℕ → ℕ → List ℕ → List ℕ
  pending A k T = remainder (modulo p) (mul (modulo p) (drop k A) T) w

  -- x·T modulo w
  abbrev next : List ℕ → List ℕ
  next T = remainder (modulo p) (shift (modulo p) 1 T) w

  -- the polynomial in the window after k multiplications by x
  abbrev at : List ℕ → ℕ → List ℕ
  at window k = polynomial p window (office.system_coefficients - k) (degree w)

  -- the coefficients before k are added
  pub record Walking (columns base : ℕ) (A goal : ℕ → List ℕ) (longest : ℕ) (carried window : List ℕ) (k : ℕ) : Type 0 where
    pub within : k ≤ longest
    pub words : CarriedSums p (base + k) carried
    pub room : length window ≡ window_words
    pub slides : ReducedFrom p window (office.system_coefficients - k)
    pub so_far : (j : ℕ) → j < columns → add (modulo p) (carried_in p (degree w) carried j) (pending (A j) k (at window k)) ≡ goal j

module _ (p : ℕ) (prime : Prime p) (w : List ℕ) (hw : Canonical p w) (some : 0 < length w) where
  positive : 0 < p
  positive = omega (arith, prime.large)

  none_pending : (A : List ℕ) (k : ℕ) (T : List ℕ) → length A ≤ k → pending p w A k T ≡ []
  unfolding mul divide
  none_pending A k T past = ap (λ l. remainder (modulo p) (mul (modulo p) l T) w) (drop_of_length-le A past)

  module _ (T : List ℕ) (h_T : Canonical p T) (short : length T < length w) where
    first_term : (a : ℕ) (f : List ℕ) → Canonical p f
        → remainder (modulo p) (mul (modulo p) (a ∷ f) T) w
        ≡ add (modulo p) (scale (modulo p) a T) (remainder (modulo p) (mul (modulo p) f (next p w T)) w)
    unfolding modulo mul shift
    first_term a f hf =
        let o = modulo p in
        let x_T = shift o 1 T in
        let hx = canonical_shift p positive 1 T h_T in
        let ha = canonical_scale p positive a T in
        let moved : shift o 1 (mul o f T) ≡ mul o f x_T =
        ap (shift o 1) (mul_comm p prime f T hf h_T) ∙ shift_mul p prime 1 T f h_T hf ∙ mul_comm p prime x_T f hx hf in
        ap (λ g. remainder o (add o (scale o a T) g) w) moved
        ∙ remainder_add p prime (scale o a T) (mul o f x_T) w ha (canonical_mul p positive f x_T) hw some
        ∙ ap₂ (add o)
        (remainder_short p prime (scale o a T) w ha hw (omega (arith, length_scale o a T)))
        (remainder_factor p prime f x_T w hf hx hw some)

    -- one coefficient
    pending_turn : (A : List ℕ) → Canonical p A → (k : ℕ)
        → pending p w A k T ≡ add (modulo p) (scale (modulo p) (get_or A k 0) T) (pending p w A (k + 1) (next p w T))
    unfolding add
    pending_turn A h_A k = ⊎_elim
        (λ lt.
        ap (λ l. remainder (modulo p) (mul (modulo p) l T) w) (drop-cons A k 0 lt)
        ∙ first_term (get_or A k 0) (drop (suc k) A) (canonical_drop p (suc k) A h_A)
        ∙ ap (λ n. add (modulo p) (scale (modulo p) (get_or A k 0) T) (pending p w A n (next p w T))) (sym (add-one k)))
        (λ past.
        none_pending A k T past
        ∙ sym (ap₂ (add (modulo p))
        (ap (λ a. scale (modulo p) a T) (get_or-eq_default A 0 past) ∙ scale_zero p T)
        (none_pending A (k + 1) (next p w T) (omega arith))))
        (below_or_not k (length A))

  -- ---- the loop over the coefficients

  canonical_at : (l : List ℕ) (a : ℕ) → Canonical p (polynomial p l a (degree w))
  canonical_at l a = canonical_reduced p positive (take (degree w) (drop a l))

  short_at : (l : List ℕ) (a : ℕ) → length (polynomial p l a (degree w)) < length w
  short_at l a = omega (arith, length_polynomial p l a (degree w))

  module _ (columns base : ℕ) (A : ℕ → List ℕ) (h_A : (j : ℕ) → j < columns → Canonical p (A j)) where
    pub walking_start : (z Z : List ℕ) → z ≡ Z → Canonical p Z → (longest : ℕ) (carried window : List ℕ)
        → CarriedSums p base carried
        → length window ≡ window_words → ReducedFrom p window office.system_coefficients
        → polynomial p window office.system_coefficients (degree w) ≡ remainder (modulo p) z w
        → Walking p w columns base A (λ j. take_along p w (carried_in p (degree w) carried j) (mul (modulo p) Z (A j))) longest
        carried
        window 0
    unfolding take_along
    walking_start z Z same h_Z longest carried window words room slides is = record {
      within = omega arith;
      words = rw add-zero words;
      room = room;
      slides = slides;
      so_far = λ j lt.
          let o = modulo p in
          let r = carried_in p (degree w) carried j in
          let hr = canonical_at carried (j * carried_width) in
          let product = mul o Z (A j) in
          ap (λ T. add o r (remainder o (mul o (A j) T) w)) (is ∙ ap (λ f. remainder o f w) same)
          ∙ ap (add o r) (sym (remainder_factor p prime (A j) Z w (h_A j lt) h_Z hw some)
          ∙ ap (λ f. remainder o f w) (mul_comm p prime (A j) Z (h_A j lt) h_Z))
          ∙ ap (λ f. add o f (remainder o product w))
          (sym (remainder_short p prime r w hr hw (short_at carried (j * carried_width))))
          ∙ sym (remainder_add p prime r product w hr (canonical_mul p positive Z (A j)) hw some);
    }

    module _ (goal : ℕ → List ℕ) (longest : ℕ) (carried window : List ℕ) (k : ℕ)
        (state : Walking p w columns base A goal longest carried window k) where
      pub walking_turn : k < longest → (carried' window' : List ℕ)
          → ((j : ℕ) → j < columns → carried_in p (degree w) carried' j
          ≡ add (modulo p) (carried_in p (degree w) carried j) (scale (modulo p) (get_or (A j) k 0) (at p w window k)))
          → CarriedSums p (base + k + 1) carried' → length window' ≡ window_words
          → ReducedFrom p window' (office.system_coefficients - (k + 1))
          → at p w window' (k + 1) ≡ next p w (at p w window k)
          → Walking p w columns base A goal longest carried' window' (k + 1)
      walking_turn more carried' window' terms words room slides is = record {
        within = omega arith;
        words = subst (λ n. CarriedSums p n carried') (omega arith) words;
        room = room;
        slides = slides;
        so_far = λ j lt.
            let o = modulo p in
            let r = carried_in p (degree w) carried j in
            let T = at p w window k in
            let term = scale o (get_or (A j) k 0) T in
            let rest = pending p w (A j) (k + 1) (next p w T) in
            ap₂ (λ f T'. add o f (pending p w (A j) (k + 1) T')) (terms j lt) is
            ∙ add_assoc p prime r term rest (canonical_at carried (j * carried_width)) (canonical_scale p positive _ T)
            (canonical_remainder p positive _ w (canonical_mul p positive (drop (k + 1) (A j)) (next p w T)))
            ∙ ap (add o r) (sym (pending_turn T (canonical_at window (office.system_coefficients - k))
            (short_at window (office.system_coefficients - k)) (A j) (h_A j lt) k))
            ∙ state.so_far j lt;
      }

      pub walking_end : ((j : ℕ) → j < columns → length (A j) ≤ longest) → longest ≤ k
          → (j : ℕ) → j < columns → carried_in p (degree w) carried j ≡ goal j
      walking_end longer past j lt =
          sym (ap (add (modulo p) (carried_in p (degree w) carried j))
          (none_pending (A j) k (at p w window k) (omega (arith, longer j lt)))
          ∙ add_nil p (carried_in p (degree w) carried j))
          ∙ state.so_far j lt

      pub walking_words : longest ≤ office.system_coefficients → CarriedSums p (base + office.system_coefficients) carried
      walking_words most = record {
        room = state.words.room;
        small = λ i. omega (
          arith,
          state.words.small i,
          mul-le-mul_right {m = base + k} {n = base + office.system_coefficients} (p * p) (omega (arith, state.within)),
        );
      }

      -- what a multiplication by x leaves in the window
      pub slid : k < office.system_coefficients → (window' : List ℕ)
          → polynomial p window' (office.system_coefficients - (k + 1)) (degree w)
          ≡ remainder (modulo p) (shift (modulo p) 1 (polynomial p window (office.system_coefficients - (k + 1) + 1) (degree w)))
          (take (degree w + 1) w)
          → at p w window' (k + 1) ≡ next p w (at p w window k)
      slid more window' is =
          let place : office.system_coefficients - (k + 1) + 1 ≡ office.system_coefficients - k = omega arith in
          is
          ∙ ap₂ (λ n l. remainder (modulo p) (shift (modulo p) 1 (polynomial p window n (degree w))) l) place
          (take_all (degree w + 1) w (omega arith))
