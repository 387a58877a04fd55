-- Rational solutions of a system, their denominators, and the least denominator (document 01, "The system").
use Rattle.std.specs.Prelude.{ℕ, zero, suc, ◌<◌, ◌≤◌, ◌≡◌, List, [], ◌∷◌, length, get_or}
use Rattle.algebra.specs.Coefficients.{add, mul, leading}
use Rattle.modular.specs.Modulo.{modulo}
use Rattle.modular.specs.Canonical.{Canonical}
use Rattle.words.specs.System.{System, entry, side_entry}

-- a list of polynomials modulo p
unfoldable pub AllCanonical : ℕ → List (List ℕ) → Type 0
AllCanonical p [] = Unit {0}
AllCanonical p (f ∷ fs) = Canonical p f × AllCanonical p fs

-- ---- products with the matrix

-- f 0 + .. + f (n - 1), polynomials modulo p
unfoldable pub total_modulo : ℕ → ℕ → (ℕ → List ℕ) → List ℕ
unfolding add modulo
total_modulo p zero f = []
total_modulo p (suc n) f = add (modulo p) (total_modulo p n f) (f n)

-- the entry of row i of A·M
unfoldable pub row_of : System → List (List ℕ) → ℕ → List ℕ
unfolding total_modulo mul modulo
row_of s M i = total_modulo s.modulus s.columns (λ j. mul (modulo s.modulus) (entry s i j) (get_or M j []))

-- the entry of column j of Z·A
unfoldable pub column_of : System → List (List ℕ) → ℕ → List ℕ
unfolding total_modulo mul modulo
column_of s Z j = total_modulo s.modulus s.rows (λ i. mul (modulo s.modulus) (get_or Z i []) (entry s i j))

-- Z·b
unfoldable pub side_of : System → List (List ℕ) → List ℕ
unfolding total_modulo mul modulo
side_of s Z = total_modulo s.modulus s.rows (λ i. mul (modulo s.modulus) (get_or Z i []) (side_entry s i))

-- ---- solutions

-- "m polynomials M and one polynomial e that is not zero, all of any degree, meaning y = M/e, with A·M = e·b in every row"
pub record RationalSolution (s : System) (M : List (List ℕ)) (e : List ℕ) : Type 0 where
  pub numerators : AllCanonical s.modulus M
  pub count : length M ≡ s.columns
  pub divisor : Canonical s.modulus e
  pub nonzero : ¬ (e ≡ [])
  pub rows : (i : ℕ) → i < s.rows → row_of s M i ≡ mul (modulo s.modulus) e (side_entry s i)

-- d divides f
pub record DividesModulo (p : ℕ) (d f : List ℕ) : Type 0 where
  pub quotient : List ℕ
  pub canonical : Canonical p quotient
  pub product : f ≡ mul (modulo p) quotient d

-- "A polynomial times y leaves only polynomials exactly when e divides its product with each entry of M."
unfoldable pub Clears : ℕ → List ℕ → List (List ℕ) → List ℕ → Type 0
Clears p c M e = (j : ℕ) → j < length M → DividesModulo p e (mul (modulo p) c (get_or M j []))

unfoldable pub Monic : ℕ → List ℕ → Type 0
Monic p f = leading (modulo p) f ≡ 1

-- "Its denominator is the monic polynomial of least degree that, times y, leaves only polynomials."
pub record Denominator (p : ℕ) (M : List (List ℕ)) (e c : List ℕ) : Type 0 where
  pub canonical : Canonical p c
  pub monic : Monic p c
  pub clears : Clears p c M e
  pub least : (f : List ℕ) → Canonical p f → Monic p f → Clears p f M e → length c ≤ length f

-- "The least denominator is the monic generator of the ideal of all solutions' denominators; some solution has it."
pub record LeastDenominator (s : System) (d : List ℕ) : Type 0 where
  pub canonical : Canonical s.modulus d
  pub monic : Monic s.modulus d
  -- whatever clears a solution is a multiple of d, its denominator before all
  pub divides : (M : List (List ℕ)) (e : List ℕ) → RationalSolution s M e → (c : List ℕ) → Canonical s.modulus c
      → Clears s.modulus c M e
      → DividesModulo s.modulus d c
  -- some solution has it
  pub numerators : List (List ℕ)
  pub over : List ℕ
  pub solution : RationalSolution s numerators over
  pub reached : Denominator s.modulus numerators over d

-- ---- the answer to a system, which leaves nothing free: "a solution exactly when a rational solution exists, and d is then the
-- least denominator"

pub data Answer : Type 0 where
  none : Answer
  least : List ℕ → Answer

unfoldable pub Answers : System → Answer → Type 0
Answers s none = (M : List (List ℕ)) (e : List ℕ) → ¬ RationalSolution s M e
Answers s (least d) = LeastDenominator s d
