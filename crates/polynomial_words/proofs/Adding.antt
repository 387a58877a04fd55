-- The invariant of the product's loop: the rows before i are added.
use mathlib.Core.Path.{◌≡◌, refl, sym, ap, ap₂, ◌∙◌}
use mathlib.Core.List.{List}
use Prim.Native.Nat.{ℕ, ◌+◌, ◌*◌, ◌%◌, ◌≤◌, ◌<◌}
use native.Mathlib.Nat.{le_antisymm, mul-le-mul, zero-add, add-mul}
use native.Mathlib.Numerals.{add-one}
use native.Mathlib.Omega.{arith}
use lib.ListN.{length, get_or, take, drop}
use Rattle.algebra.specs.Coefficients.{coefficient, add, scale, shift}
use Rattle.modular.specs.Modulo.{modulo}
use Rattle.modular.specs.Closed.{canonical_multiple}
use Rattle.modular.specs.Product.{rows, canonical_rows}
use Rattle.modular.specs.Bits.{most16, bound64}
use Rattle.vector.specs.Stored.{stored, length_stored}
use Rattle.vector.specs.Bound.{AtMost, at_most_sum}
use Rattle.vector.specs.Reduced.{polynomial, canonical_reduced, coefficient_reduced, word_inside, residue_same}
use Rattle.vector.specs.Multiple.{sum_at, GainsMultiple}
use Rattle.vector.specs.Size.{length_polynomial}
use Rattle.polynomial_words.specs.Product.{unreduced_terms, sum_most, GainsProduct}
use Rattle.polynomial_words.proofs.Rows.{add_nil, rows_mul, scale_mod, add_assoc}

pub record Adding (h f : List ℕ) (n : ℕ) (g : List ℕ) (k : ℕ) (h' : List ℕ) (i : ℕ) : Type 0 where
  pub within : i ≤ n
  pub same_length : length h' ≡ length h
  pub bound : (b q : ℕ) → AtMost b h → AtMost q f → AtMost q g → AtMost (b + i * (q * q)) h'
  pub sum : (p m : ℕ) → 0 < p → n + k ≤ m + 1 →
      polynomial p h' 0 m ≡ add (modulo p) (polynomial p h 0 m) (rows p (polynomial p f 0 n) (polynomial p g 0 k) i)

module _ (h f : List ℕ) (n : ℕ) (g : List ℕ) (k : ℕ) where
  pub adding_start : Adding h f n g k h 0
  unfolding rows
  adding_start = record {
    within = omega arith;
    same_length = refl;
    bound = λ b q hb hf hg i. omega (arith, hb i);
    sum = λ p m positive all. sym (add_nil p (polynomial p h 0 m));
  }

  module _ (h' : List ℕ) (i : ℕ) (so_far : Adding h f n g k h' i) where
    -- no sum is too large for a word
    pub adding_fits : n ≤ unreduced_terms → AtMost sum_most h → AtMost most16 f → AtMost most16 g →
        (j : ℕ) → j < k → sum_at h' i g 0 (get_or f i 0) j < bound64
    adding_fits few hb hf hg j lt =
        let within : i ≤ n = so_far.within in
        omega (
          arith,
          so_far.bound sum_most most16 hb hf hg (i + j),
          mul-le-mul {n₁ = get_or f i 0} {m₁ = get_or g (0 + j) 0} {n₂ = most16} {m₂ = most16} (hf i) (hg (0 + j)),
        )

    pub adding_turn : (h'' : List ℕ) → i < n → i + k ≤ length h → h'' ≡ stored (sum_at h' i g 0 (get_or f i 0)) h' i k →
        GainsMultiple h' h'' i g 0 k (get_or f i 0) → Adding h f n g k h'' (i + 1)
    unfolding rows
    adding_turn h'' lt room words gains = record {
      within = omega arith;
      same_length = ap length words ∙ length_stored (sum_at h' i g 0 (get_or f i 0)) h' i k ∙ so_far.same_length;
      bound =
          λ b q hb hf hg.
          rw words (λ j.
          omega (
            arith,
            at_most_sum
                (b + i * (q * q))
                (q * q)
                h'
                i
                g
                0
                k
                (get_or f i 0)
                (so_far.bound b q hb hf hg)
                (λ t l. mul-le-mul {n₁ = get_or f i 0} {m₁ = get_or g (0 + t) 0} {n₂ = q} {m₂ = q} (hf i) (hg (0 + t)))
                j,
            add-mul i 1 (q * q),
          ));
      sum = row;
    }
      where
        row : (p m : ℕ) → 0 < p → n + k ≤ m + 1 →
            polynomial p h'' 0 m ≡ add (modulo p) (polynomial p h 0 m) (rows p (polynomial p f 0 n) (polynomial p g 0 k) (i + 1))
        row p m positive all =
            let F = polynomial p f 0 n in
            let G = polynomial p g 0 k in
            let at : coefficient (modulo p) F i ≡ get_or f i 0 % p =
            coefficient_reduced p positive (take n (drop 0 f)) i
            ∙ residue_same p (word_inside f 0 n i lt ∙ ap (λ (x : ℕ). get_or f x 0) (zero-add i)) in
            let same : scale (modulo p) (get_or f i 0) G ≡ scale (modulo p) (coefficient (modulo p) F i) G =
            scale_mod p positive (get_or f i 0) G ∙ ap (λ (c : ℕ). scale (modulo p) c G) (sym at) in
            gains p 0 i m positive (omega arith) (omega arith)
            ∙ ap₂ (λ (x y : List ℕ). add (modulo p) x (shift (modulo p) i y)) (so_far.sum p m positive all) same
            ∙ add_assoc
            p
            positive
            (polynomial p h 0 m)
            (rows p F G i)
            (shift (modulo p) i (scale (modulo p) (coefficient (modulo p) F i) G))
            (canonical_reduced p positive (take m (drop 0 h)))
            (canonical_rows p positive F G i)
            (canonical_multiple p positive i (coefficient (modulo p) F i) G)
            ∙ ap (λ (j : ℕ). add (modulo p) (polynomial p h 0 m) (rows p F G j)) (sym (add-one i))

    pub adding_end : n ≤ i → GainsProduct h f n g k h'
    adding_end past =
        let all : i ≡ n = le_antisymm so_far.within past in
        record {
          bound = λ b q hb hf hg. rw (← all) (so_far.bound b q hb hf hg);
          sum =
              λ p m positive all_in.
              so_far.sum p m positive all_in
              ∙ ap
              (add (modulo p) (polynomial p h 0 m))
              (rows_mul p positive (polynomial p f 0 n) (polynomial p g 0 k) i (omega (arith, length_polynomial p f 0 n)));
        }
