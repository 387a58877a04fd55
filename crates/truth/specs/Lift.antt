-- Systems and vectors of polynomials, as lists, are equations over the ring of polynomials modulo p: what is proved in the ring
-- (`Witness`) is said of the lists (`Solution`).
use Prim.Native.Nat.{ℕ, zero, suc}
use Rattle.std.specs.Prelude.{◌≡◌, List, [], ◌∷◌, get_or}
use Rattle.std.proofs.Math.Path.{refl, ap}
use Rattle.ring.specs.Ring.{Ring}
use Rattle.ring.specs.Sum.{sum}
use Rattle.algebra.specs.Coefficients.{add}
use Rattle.algebra.specs.Divides.{Divides as DividesIn}
use Rattle.modular.specs.Prime.{Prime}
use Rattle.modular.specs.Modulo.{modulo}
use Rattle.modular.specs.Canonical.{Canonical}
use Rattle.modular.specs.Closed.{canonical_nil}
use Rattle.modular.specs.Values.{NumberPolynomial, equal_numbers}
use Rattle.modular.specs.Numbers.{numbers}
use Rattle.words.specs.System.{System, entry, side_entry}
use Rattle.truth.specs.Solution.{AllCanonical, total_modulo, row_of, column_of, side_of, DividesModulo}
use Rattle.truth.specs.Witness.{RingEquations}
use Rattle.truth.specs.Witness

-- a system over the polynomials modulo a prime, of any size and any degree
pub record Proper (s : System) : Type 0 where
  pub prime : Prime s.modulus
  pub matrix : AllCanonical s.modulus s.matrix
  pub side : AllCanonical s.modulus s.side

pub canonical_at : (p : ℕ) (fs : List (List ℕ)) → AllCanonical p fs → (i : ℕ) → Canonical p (get_or fs i [])
unfolding AllCanonical
canonical_at p [] h i = canonical_nil p
canonical_at p (f ∷ fs) h zero = h.0
canonical_at p (f ∷ fs) h (suc i) = canonical_at p fs h.1 i

-- the entries of a list of polynomials, zero behind its end
abbrev pub vector : (p : ℕ) (fs : List (List ℕ)) → AllCanonical p fs → ℕ → NumberPolynomial p
vector p fs h i = (get_or fs i [], canonical_at p fs h i)

module _ (p : ℕ) (prime : Prime p) where
  abbrev R : Ring (NumberPolynomial p)
  R = numbers p prime

  pub sum_list : (n : ℕ) (F : ℕ → NumberPolynomial p) → (sum R n F).0 ≡ total_modulo p n (λ i. (F i).0)
  unfolding sum total_modulo numbers
  sum_list zero F = refl
  sum_list (suc n) F = ap (λ f. add (modulo p) f (F n).0) (sum_list n F)

  pub divides_list : {d f : NumberPolynomial p} → DividesIn R d f → DividesModulo p d.0 f.0
  unfolding numbers
  divides_list w = record { quotient = w.cofactor.0; canonical = w.cofactor.1; product = ap (λ x. x.0) w.product }

  pub divides_lift : (d f : NumberPolynomial p) → DividesModulo p d.0 f.0 → DividesIn R d f
  unfolding numbers
  divides_lift d f w = record { cofactor = (w.quotient, w.canonical); product = equal_numbers p f _ w.product }

module _ (s : System) (h : Proper s) where
  abbrev pub ring_of : Ring (NumberPolynomial s.modulus)
  ring_of = numbers s.modulus h.prime

  abbrev pub equations : RingEquations (NumberPolynomial s.modulus)
  equations = record {
    rows = s.rows;
    columns = s.columns;
    entry = λ i j. (entry s i j, canonical_at s.modulus s.matrix h.matrix _);
    side = λ i. (side_entry s i, canonical_at s.modulus s.side h.side i);
  }

  module _ (fs : List (List ℕ)) (hf : AllCanonical s.modulus fs) where
    abbrev v : ℕ → NumberPolynomial s.modulus
    v = vector s.modulus fs hf

    pub row_list : (i : ℕ) → (Witness.row_of ring_of equations v i).0 ≡ row_of s fs i
    unfolding row_of numbers
    row_list i = sum_list s.modulus h.prime s.columns (λ j. ring_of.mul (equations.entry i j) (v j))

    pub column_list : (j : ℕ) → (Witness.column_of ring_of equations v j).0 ≡ column_of s fs j
    unfolding column_of numbers
    column_list j = sum_list s.modulus h.prime s.rows (λ i. ring_of.mul (v i) (equations.entry i j))

    pub side_list : (Witness.side_of ring_of equations v).0 ≡ side_of s fs
    unfolding side_of numbers
    side_list = sum_list s.modulus h.prime s.rows (λ i. ring_of.mul (v i) (equations.side i))
