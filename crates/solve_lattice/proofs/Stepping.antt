-- A step on the block in hand: the multiple of the slot at its pivot that takes the leading word away. `divide` and `insert` make
-- the same step.
use Prim.Native.Nat.{ℕ, ◌+◌, ◌-◌, ◌*◌, ◌/◌, ◌%◌, ◌<◌, ◌≤◌}
use mathlib.Core.Path.{◌≡◌, refl, sym, ◌∙◌, ap, ap₂, subst}
use mathlib.Core.Logic.{⊎_elim}
use mathlib.Core.List.{List, [], ◌∷◌}
use native.Mathlib.Nat.{mod-lt, mul-le-mul, zero-add}
use native.Mathlib.Omega.{arith}
use lib.ListN.{length, get_or}
use Rattle.ring.specs.Ring.{Ring}
use Rattle.ring.specs.Identity.{quotes, identity}
use Rattle.ring.specs.Combination.{given, combination}
use Rattle.algebra.specs.Field.{Field}
use Rattle.modular.specs.Prime.{Prime}
use Rattle.modular.specs.Modulo.{modulo}
use Rattle.modular.specs.Residue.{Residue, residues}
use Rattle.modular.specs.Bits.{bound64}
use Rattle.modular.specs.LargestPrime.{largest_modulus}
use Rattle.residue.specs.Below.{mul_below, inverse_below}
use Rattle.vector.specs.Stored.{stored, length_stored, stored_inside, below_or_not}
use Rattle.vector.specs.Multiple.{sum_at}
use Rattle.solve_lattice.specs.Room.{sizes_from, product_words, block_words, slot_words, lanes, last_lane, most_products}
use Rattle.solve_lattice.specs.Word.{residue, residue_mod, residue_mul, residue_inverse, zero_residue}
use Rattle.solve_lattice.specs.Word.{words, words_inside, words_first}
use Rattle.solve_lattice.specs.Memory.{row, height, ZeroFrom, Level, slot_size, slot_inverse, Sums, ValidSlot}
use Rattle.residue.specs.Sum.{SmallSum, sum_fits}
use Rattle.solve_lattice.specs.Sums.{sums_room, sums_step}
use Rattle.solve_lattice.specs.Step.{factor_of, HasMultiple, Rest, Left}
use Rattle.solve_lattice.specs.Range.{zero_word, words_upper, words_lower, zero_kept}

-- h - (h·i)·u is zero for u·i = 1
pub cancelled : {K : Type 0} (R : Ring K) (h u i : K) → R.mul u i ≡ R.one → R.add h (R.neg (R.mul (R.mul h i) u)) ≡ R.zero
cancelled R h u i e = combination R (R.add h (R.neg (R.mul (R.mul h i) u))) R.zero (given (R.neg h) e ∷ [])
    (identity R (h ∷ u ∷ i ∷ []) (λ ρ qh qu qi. search quotes depth 16) refl)

-- the words of the degrees of k words
pub whole_degrees : {w : ℕ} (k : ℕ) → w ≡ k + (lanes - k % lanes) % lanes → w ≡ height k * lanes
whole_degrees k same = omega (arith, same)

-- the leading word and its slot's inverse are factors
pub value_below : {p : ℕ} {L : Level} {block : List ℕ} {k value : ℕ} → 0 < p → HasMultiple p L block k value → value < p
value_below {p} {L} {block} {k} positive S = subst (λ x. x < p) (sym S.leading) (mod-lt (get_or block (k - 1) 0) positive)

pub slot_inverse_below : {p : ℕ} {L : Level} {block : List ℕ} {k value : ℕ} → Prime p → HasMultiple p L block k value
    → slot_inverse L (row k) < p
slot_inverse_below {p} {L} {block} {k} prime S =
    subst (λ x. x < p) (sym ((S.level.slot (row k) (omega arith)).inverse S.filled)) (inverse_below p prime.large _)

-- the place of the factor among the quotients
pub place_inside : {p : ℕ} {L : Level} {block : List ℕ} {k value : ℕ} → HasMultiple p L block k value
    → k - slot_size L (row k) + (last_lane - row k) < k
place_inside {k = k} S = omega (arith, (S.level.slot (row k) (omega arith)).pivot S.filled, S.filled, S.fits)

-- where the last word is known
pub early_left : {p : ℕ} {block : List ℕ} {n value unseen : ℕ} → Rest p block n value unseen → 0 < value
    → Left p block n n value
early_left {p} {block} {n} R some = record {
  ends = record {
    within = R.within;
    last = λ h. subst (λ x. 0 < x) ((R.early some).1 ∙ ap (λ i. get_or block i 0 % p) (sym (zero-add (n - 1)))) some;
    behind = R.behind;
  };
  leading = λ h. (R.early some).1;
  within = omega arith;
}

-- zero from the word before on
zero_before : (p : ℕ) (block : List ℕ) (n : ℕ) → ZeroFrom p block 0 product_words n → get_or block (n - 1) 0 % p ≡ 0
    → ZeroFrom p block 0 product_words (n - 1)
zero_before p block n behind last j h lt =
    ⊎_elim
    (λ less. let here : 0 + j ≡ n - 1 = omega (arith, less, h) in ap (λ i. get_or block i 0 % p) here ∙ last)
    (λ more. behind j more lt)
    (below_or_not j n)

-- a times the slot is taken off, `shift` degrees up
module _ (p : ℕ) (prime : Prime p) {L : Level} {block : List ℕ} {k value : ℕ} (S : HasMultiple p L block k value) (a : ℕ)
    (by : a ≡ factor_of p L k value) where
  abbrev pub pivot : ℕ
  pivot = row k

  abbrev pub size : ℕ
  size = slot_size L (row k)

  abbrev pub shift : ℕ
  shift = (k - slot_size L (row k)) / lanes

  -- the words of the slot's degrees
  abbrev pub taken : ℕ
  taken = height (slot_size L (row k)) * lanes

  slot : ValidSlot p L (row k)
  slot = S.level.slot (row k) (omega arith)

  pub step_factor : a < p
  step_factor = subst (λ x. x < p) (sym by) (mul_below p prime.large value (slot_inverse L (row k)))

  -- the shift is by whole degrees
  pub step_shift : k - slot_size L (row k) ≡ shift * lanes
  step_shift = omega (arith, slot.pivot S.filled, S.fits, S.filled)

  pub step_word : (i : ℕ) → i < sizes_from → get_or L i 0 < p
  step_word = S.level.below

  pub step_product : (i : ℕ) → i < sizes_from → (p - a) * get_or L i 0 ≤ p * p
  step_product i h = mul-le-mul {n₁ = p - a} {m₁ = get_or L i 0} {n₂ = p} {m₂ = p} (omega arith) (omega (arith, step_word i h))

  -- the places of the step are there, and the sums fit
  step_inside : k - slot_size L (row k) + taken ≤ product_words
  step_inside = omega (arith, step_shift, S.fits, S.within)

  pub step_room : k - slot_size L (row k) + height (slot_size L (row k)) * lanes ≤ length block
  step_room = omega (arith, step_shift, S.fits, S.room)

  step_fits : taken ≤ block_words
  step_fits = omega (arith, slot.block.within)

  step_none : ZeroFrom p L (slot_words * row k) block_words taken
  step_none j h lt = slot.block.behind j (omega arith) lt

  pub step_reduces : Sums p 1 block → (j : ℕ) → j < block_words
      → SmallSum p (sum_at block (k - slot_size L (row k)) L (slot_words * row k) (p - a) j)
  step_reduces sums j lt =
      let positive : 0 < p = omega (arith, prime.large) in
      omega (
        arith,
        sums_room p block 1 positive sums (k - slot_size L (row k) + j),
        step_product (slot_words * row k + j)
            (omega arith),
      )

  pub step_sum : Sums p 1 block → p ≤ largest_modulus → (j : ℕ) → j < height (slot_size L (row k)) * lanes
      → sum_at block (k - slot_size L (row k)) L (slot_words * row k) (p - a) j < bound64
  step_sum sums limit j lt = sum_fits p _ limit (step_reduces sums j (omega (arith, step_fits)))

  module _ (block' : List ℕ)
      (stores : block' ≡ stored (sum_at block (k - slot_size L (row k)) L (slot_words * row k) (p - a)) block
      (k - slot_size L (row k)) (height (slot_size L (row k)) * lanes)) where
    abbrev d : ℕ
    d = k - slot_size L (row k)

    abbrev c : ℕ
    c = p - a

    pub step_sums : (n : ℕ) → 0 < n → n ≤ most_products → Sums p n block → Sums p (n - 1) block'
    step_sums = sums_step p block block' d L (slot_words * row k) taken c stores
        (λ j lt. step_product (slot_words * row k + j) (omega (arith, step_fits)))

    pub step_reducible : Sums p 1 block → (j : ℕ) → SmallSum p (get_or block' j 0)
    step_reducible sums j =
        let positive : 0 < p = omega (arith, prime.large) in
        omega (arith, sums_room p block' 0 positive (step_sums 1 (omega arith) (omega arith) sums) j)

    pub step_length : length block' ≡ length block
    step_length = ap length stores ∙ length_stored _ block d taken

    upper : (x : ℕ) → words p prime block' 0 product_words (d + x)
        ≡ (residues p prime).ring.add (words p prime block 0 product_words (d + x))
        ((residues p prime).ring.neg ((residues p prime).ring.mul (residue p prime a)
        (words p prime L (slot_words * row k) block_words x)))
    upper = words_upper p prime block block' L d (slot_words * row k) taken block_words product_words a stores step_factor
        step_inside step_room step_none step_fits

    lower : (x : ℕ) → x < d → words p prime block' 0 product_words x ≡ words p prime block 0 product_words x
    lower = words_lower p prime block block' L d (slot_words * row k) taken block_words product_words a stores step_factor
        step_inside step_room step_none step_fits

    -- as `flat_step` of `reduction` takes it
    pub step_upper : (x : ℕ) → words p prime block' 0 product_words (shift * lanes + x)
        ≡ (residues p prime).ring.add (words p prime block 0 product_words (shift * lanes + x))
        ((residues p prime).ring.neg ((residues p prime).ring.mul (residue p prime a)
        (words p prime L (slot_words * row k) block_words x)))
    step_upper = rw step_shift at upper

    pub step_lower : (x : ℕ) → x < shift * lanes → words p prime block' 0 product_words x ≡ words p prime block 0 product_words x
    step_lower = rw step_shift at lower

    -- a is the quotient of the leading words, so that the leading word goes
    abbrev F : Field (Residue p)
    F = residues p prime

    abbrev last : ℕ
    last = get_or L (slot_words * row k + (slot_size L (row k) - 1)) 0

    last_nonzero : ¬ (residue p prime last ≡ F.ring.zero)
    last_nonzero e = omega (arith, slot.block.last S.filled, zero_residue p prime last e)

    factor : residue p prime a ≡ F.ring.mul (words p prime block 0 product_words (k - 1)) (F.inverse (residue p prime last))
    unfolding modulo
    factor =
        let inside : k - 1 < product_words = omega (arith, S.some, S.within) in
        ap (residue p prime) by
        ∙ residue_mod p prime (value * slot_inverse L (row k))
        ∙ residue_mul p prime value (slot_inverse L (row k))
        ∙ ap₂
        F.ring.mul
        (ap (residue p prime) S.leading
        ∙ residue_mod p prime (get_or block (k - 1) 0)
        ∙ sym (words_first p prime block product_words (k - 1) inside))
        (ap (residue p prime) (slot.inverse S.filled)
        ∙ residue_inverse p prime last (step_word _ (omega (arith, slot.block.within))))

    pub leading_gone : words p prime block' 0 product_words (k - 1) ≡ F.ring.zero
    leading_gone =
        let place : d + (slot_size L (row k) - 1) ≡ k - 1 = omega (arith, S.filled, S.fits) in
        let inside : slot_size L (row k) - 1 < block_words = omega (arith, S.filled, slot.block.within) in
        subst (λ x. words p prime block' 0 product_words x ≡ F.ring.add (words p prime block 0 product_words x)
        (F.ring.neg (F.ring.mul (residue p prime a) (words p prime L (slot_words * row k) block_words (slot_size L (row k) - 1)))))
        place (upper (slot_size L (row k) - 1))
        ∙ ap₂ (λ x y. F.ring.add (words p prime block 0 product_words (k - 1)) (F.ring.neg (F.ring.mul x y)))
        factor (words_inside p prime L (slot_words * row k) block_words _ inside)
        ∙ cancelled F.ring (words p prime block 0 product_words (k - 1)) (residue p prime last)
        (F.inverse (residue p prime last))
        (F.mul_inverse (residue p prime last) last_nonzero)

    pub step_behind : ZeroFrom p block 0 product_words k → ZeroFrom p block' 0 product_words (k - 1)
    step_behind behind j h lt =
        ⊎_elim
        (λ less.
        let here : j ≡ k - 1 = omega (arith, S.some) in
        zero_word p prime block' 0 product_words j lt (ap (words p prime block' 0 product_words) here ∙ leading_gone))
        (λ more.
        zero_kept p prime block block' L d (slot_words * row k) taken block_words product_words a stores step_factor step_inside
        step_room
        step_none step_fits size k slot.block.behind (omega (arith, S.fits)) behind j more lt)
        (below_or_not j k)

    -- what is left, where the step has seen the word before the leading one, or has no such place
    module _ (next : ℕ) (none : slot_size L (row k) < 2 → next ≡ 0)
        (before : 2 ≤ slot_size L (row k)
        → next ≡ sum_at block (k - slot_size L (row k)) L (slot_words * row k) (p - a) (slot_size L (row k) - 2) % p)
        (unseen : ℕ) (all : slot_size L (row k) < 2 → unseen ≡ k - 1) (fewer : 2 ≤ slot_size L (row k) → unseen ≡ k - 1 - 1)
        (behind : ZeroFrom p block 0 product_words k) where
      step_next : 2 ≤ slot_size L (row k) → next ≡ get_or block' (k - 1 - 1) 0 % p
      step_next two =
          let place : d + (slot_size L (row k) - 2) ≡ k - 1 - 1 = omega (arith, two, S.fits) in
          before two
          ∙ ap (λ w. w % p) (sym (ap (λ w. get_or w (d + (slot_size L (row k) - 2)) 0) stores
          ∙ stored_inside _ block d taken (slot_size L (row k) - 2) step_room (omega (arith, two))))
          ∙ ap (λ i. get_or block' i 0 % p) place

      step_early : 0 < next → (0 < k - 1) × (next ≡ get_or block' (k - 1 - 1) 0 % p)
      step_early some =
          ⊎_elim
          (λ one. absurd (omega (arith, none one)))
          (λ two. (omega (arith, two, S.fits), step_next two))
          (below_or_not (slot_size L (row k)) 2)

      step_late : next ≡ 0 → ZeroFrom p block' 0 product_words unseen
      step_late gone =
          ⊎_elim
          (λ one. subst (ZeroFrom p block' 0 product_words) (sym (all one)) (step_behind behind))
          (λ two.
          let none_there = sym (step_next two) ∙ gone in
          subst (ZeroFrom p block' 0 product_words) (sym (fewer two)) (zero_before p block' (k - 1) (step_behind behind) none_there))
          (below_or_not (slot_size L (row k)) 2)

      pub step_rest : Sums p 1 block → Rest p block' (k - 1) next unseen
      step_rest sums = record {
        room = omega (arith, S.room, step_length);
        within = omega (arith, S.within);
        behind = step_behind behind;
        reducible = step_reducible sums;
        early = step_early;
        fewer = ⊎_elim (λ one. omega (arith, all one)) (λ two. omega (arith, fewer two)) (below_or_not (slot_size L (row k)) 2);
        late = step_late;
      }
