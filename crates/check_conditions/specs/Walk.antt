-- One walk over a product (document 02, item 3): "one pass down each column, taking the remainder along as the sum grows". What is
-- carried of a column of Z·A, that it is the remainder by w of the sum of products so far, and the words that it stands in.
use Rattle.std.specs.Prelude.{◌≡◌, List, [], length, get_or}
use Rattle.std.proofs.Math.Path.{refl}
use Prim.Native.Nat.{ℕ, zero, suc, ◌+◌, ◌-◌, ◌*◌, ◌<◌}
use Rattle.algebra.specs.Coefficients.{add, mul, divide, remainder}
use Rattle.modular.specs.Modulo.{modulo}
use Rattle.modular.specs.Delay.{degree}
use Rattle.words.specs.Limits.{office}
use Rattle.words.specs.System.{System, entry}
use Rattle.vector.specs.Bound.{AtMost}
use Rattle.vector.specs.Reduced.{polynomial}
use Rattle.truth.specs.Solution.{total_modulo, column_of}
use Rattle.loader.specs.Slot.{SlotFilled}
use Rattle.loader.specs.Widths.{system_width}
use Rattle.check_conditions.specs.declared.dimensions.Dimensions.{Dimensions}

-- ---- the walk

-- what row i adds to column j of Z·A
abbrev pub column_term : System → List (List ℕ) → ℕ → ℕ → List ℕ
column_term s Z j i = mul (modulo s.modulus) (get_or Z i []) (entry s i j)

-- "the sum of products so far": column j of Z·A, of its first n rows
unfoldable pub column_so_far : System → List (List ℕ) → ℕ → ℕ → List ℕ
unfolding total_modulo mul modulo
column_so_far s Z j n = total_modulo s.modulus n (column_term s Z j)

-- "taking the remainder along as the sum grows": the remainder by w that is carried on, where r was carried and f is added
unfoldable pub take_along : (p : ℕ) (w r f : List ℕ) → List ℕ
unfolding add divide modulo
take_along p w r f = remainder (modulo p) (add (modulo p) r f) w

-- what is so carried of column j after n rows
unfoldable pub carried_after : System → List ℕ → List (List ℕ) → ℕ → ℕ → List ℕ
unfolding take_along mul modulo
carried_after s w Z j zero = []
carried_after s w Z j (suc i) = take_along s.modulus w (carried_after s w Z j i) (column_term s Z j i)

-- all rows: the column of Z·A
pub column_so_far_lem : (s : System) (Z : List (List ℕ)) (j : ℕ) → column_so_far s Z j s.rows ≡ column_of s Z j
unfolding column_so_far column_of
column_so_far_lem s Z j = refl

-- ---- in words: of each column a remainder by w, which has one coefficient fewer than w at the most

abbrev pub carried_width : ℕ
carried_width = office.certificate_coefficients - 1

abbrev pub carried_words : ℕ
carried_words = office.columns * carried_width

-- what is carried of column j in an area, e coefficients at the most
abbrev pub carried_in : (p e : ℕ) → List ℕ → ℕ → List ℕ
carried_in p e carried j = polynomial p carried (j * carried_width) e

-- the words are sums of so many products of residues at the most: they are reduced after the last row only
pub record CarriedSums (p products : ℕ) (carried : List ℕ) : Type 0 where
  pub room : length carried ≡ carried_words
  pub small : AtMost (products * (p * p)) carried

-- row i from the words before to the words after: whatever was carried of a column, the row is taken along
pub record TakesRow (s : System) (w : List ℕ) (Z : List (List ℕ)) (i : ℕ) (before after : List ℕ) : Type 0 where
  pub along : (j : ℕ) → j < s.columns → carried_in s.modulus (degree w) after j
      ≡ take_along s.modulus w (carried_in s.modulus (degree w) before j) (column_term s Z j i)
  pub sums : CarriedSums s.modulus ((i + 1) * office.system_coefficients) after

-- after n rows: of each column "the remainder by w of the sum of products so far"
pub record Carries (s : System) (w : List ℕ) (Z : List (List ℕ)) (n : ℕ) (carried : List ℕ) : Type 0 where
  pub remainders : (j : ℕ) → j < s.columns
      → carried_in s.modulus (degree w) carried j ≡ remainder (modulo s.modulus) (column_so_far s Z j n) w
  pub sums : CarriedSums s.modulus (n * office.system_coefficients) carried

-- the words of x^k·Z_i modulo w, for k up to the most coefficients of a system's polynomial: a remainder, and a place for each k
abbrev pub window_words : ℕ
window_words = office.system_coefficients + carried_width

-- the entries of row i of A stand in their slots
abbrev pub RowFilled : Dimensions → List ℕ → ℕ → Type 0
RowFilled l S i = (j : ℕ) → j < l.columns → SlotFilled l.modulus.p system_width S (i * l.columns + j)
