-- What the code's `Polynomial` stands for: the list of its coefficients. Contracts cite the definitions; the laws below are what
-- callers need of a value, so that no proof above looks at its words.
use Rattle.std.specs.Prelude.{◌≡◌, List, ℕ, ◌%◌, ◌<◌, ◌≤◌, length, get_or, take, drop}
use Rattle.std.proofs.Math.Path.{sym}
use Rattle.std.proofs.Common.{ap, ◌∙◌, subst, mod-eq_of_lt, zero-add, arith, get_or-take, ext_get_or}
use Rattle.std.proofs.Math.Logic.{⊎_elim}
use Rattle.std.proofs.Math.ListN.{length-take, get_or-eq_default}
use Rattle.std.proofs.Math.Seq.{length-take-le}
use Rattle.algebra.specs.Coefficients.{coefficient, leading}
use Rattle.modular.specs.Modulo.{modulo}
use Rattle.modular.specs.Canonical.{Canonical}
use Rattle.modular.specs.Coefficientwise.{coefficient_get_or, coefficient_beyond, coefficient_below, leading_positive, leading_below}
use Rattle.vector.specs.Reduced.{polynomial, word_inside, word_behind, reduced_is}
use Rattle.vector.specs.Stored.{below_or_not}
use Rattle.polynomial.specs.declared.value.Polynomial.{Polynomial}

-- the most coefficients of a value
abbrev pub polynomial_room : ℕ
polynomial_room = 256

-- the coefficients that f holds, lowest power first
unfoldable pub coefficients_of : Polynomial → List ℕ
coefficients_of f = take f.size f.coefficients

-- at most so many coefficients, each below p and the last not 0, and zeros in the words behind them
pub record ValidPolynomial (p : ℕ) (f : Polynomial) : Type 0 where
  pub room : length f.coefficients ≡ polynomial_room
  pub within : f.size ≤ polynomial_room
  pub canonical : Canonical p (coefficients_of f)
  pub behind : (i : ℕ) → f.size ≤ i → get_or f.coefficients i 0 ≡ 0

-- f is a valid value, and its coefficients are l
pub record Represents (p : ℕ) (f : Polynomial) (l : List ℕ) : Type 0 where
  pub valid : ValidPolynomial p f
  pub same : coefficients_of f ≡ l

module _ (p : ℕ) (f : Polynomial) (valid : ValidPolynomial p f) where
  pub size_length : length (coefficients_of f) ≡ f.size
  unfolding coefficients_of
  size_length = length-take-le f.size f.coefficients (omega (arith, valid.room, valid.within))

  pub word_coefficient : (i : ℕ) → get_or f.coefficients i 0 ≡ coefficient (modulo p) (coefficients_of f) i
  unfolding coefficients_of
  word_coefficient i =
      ⊎_elim
      (λ lt. sym (get_or-take f.size f.coefficients i 0 lt))
      (λ ge.
      valid.behind i ge
      ∙ sym (get_or-eq_default (take f.size f.coefficients) 0 (simp length-take (omega arith))))
      (below_or_not i f.size)
      ∙ sym (coefficient_get_or p (take f.size f.coefficients) i)

  module _ (positive : 0 < p) where
    -- the leading coefficient of a value that is not zero has an inverse
    pub leading_residue : 0 < f.size →
        (0 < leading (modulo p) (coefficients_of f)) × (leading (modulo p) (coefficients_of f) < p)
    leading_residue some = (
      leading_positive p (coefficients_of f) valid.canonical (omega (arith, size_length)),
      leading_below p positive (coefficients_of f) valid.canonical,
    )

    pub word_below : (i : ℕ) → get_or f.coefficients i 0 < p
    word_below i = rw (word_coefficient i) (coefficient_below p positive (coefficients_of f) i valid.canonical)

    -- any words from the first on that take in all coefficients stand for the value
    pub value_polynomial : (n : ℕ) → f.size ≤ n → polynomial p f.coefficients 0 n ≡ coefficients_of f
    value_polynomial n all =
        reduced_is
        p
        positive
        (take n (drop 0 f.coefficients))
        (coefficients_of f)
        valid.canonical
        (λ i. ap (λ (x : ℕ). x % p) (word i) ∙ mod-eq_of_lt (word_below i) ∙ word_coefficient i)
      where
        word : (i : ℕ) → get_or (take n (drop 0 f.coefficients)) i 0 ≡ get_or f.coefficients i 0
        word i =
            ⊎_elim
            (λ lt. word_inside f.coefficients 0 n i lt ∙ ap (λ (x : ℕ). get_or f.coefficients x 0) (zero-add i))
            (λ ge. word_behind f.coefficients 0 n i ge ∙ sym (valid.behind i (omega arith)))
            (below_or_not i n)

-- a value whose words are the coefficients of l, with zeros behind them
pub represents : (p : ℕ) (f : Polynomial) (l : List ℕ) → Canonical p l → length f.coefficients ≡ polynomial_room →
    f.size ≡ length l → length l ≤ polynomial_room →
    ((i : ℕ) → get_or f.coefficients i 0 ≡ coefficient (modulo p) l i) → Represents p f l
unfolding coefficients_of
represents p f l canonical room size small words = record {
  valid =
      record {
        room = room;
        within = omega arith;
        canonical = subst (λ (x : List ℕ). Canonical p x) (sym same) canonical;
        behind = λ i ge. words i ∙ coefficient_beyond p l i (omega arith);
      };
  same = same;
}
  where
    long : length (take f.size f.coefficients) ≡ f.size
    long = length-take-le f.size f.coefficients (omega arith)

    same : take f.size f.coefficients ≡ l
    same =
        ext_get_or
        0
        (take f.size f.coefficients)
        l
        (long ∙ size)
        (λ i lt. get_or-take f.size f.coefficients i 0 (omega (arith, long)) ∙ words i ∙ coefficient_get_or p l i)

pub represents_is : {p : ℕ} {f : Polynomial} {l k : List ℕ} → Represents p f l → l ≡ k → Represents p f k
represents_is r e = record { valid = r.valid; same = r.same ∙ e }
