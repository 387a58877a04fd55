-- The lists of a certificate that is right in the terms of the solver's mathematics, over the residues, are right in those of
-- document 01.
use Rattle.std.specs.Prelude.{ℕ, ◌<◌, ◌≡◌, List, []}
use Rattle.std.proofs.Math.Path.{sym, ap₂}
use Rattle.std.proofs.Common.{◌∙◌, ap, subst}
use Rattle.std.proofs.Math.ListN.{get_or}
use Rattle.ring.specs.Ring.{Ring}
use Rattle.ring.specs.Sum.{sum}
use Rattle.algebra.specs.Field.{Field}
use Rattle.algebra.specs.Coefficients
use Rattle.algebra.specs.Polynomial.{Polynomial, polynomials}
use Rattle.algebra.specs.Size.{sized}
use Rattle.algebra.specs.Bezout.{Greatest}
use Rattle.algebra.specs.Monic.{Monic as MonicIn, monic, monic_positive, monic_same}
use Rattle.algebra.specs.Division.{quotient}
use Rattle.algebra.specs.Exact.{quotient_mul}
use Rattle.algebra.specs.Gcd.{gcd, gcd_unique}
use Rattle.modular.specs.Prime.{Prime}
use Rattle.modular.specs.Modulo.{modulo}
use Rattle.modular.specs.Residue.{Residue, residues}
use Rattle.reduction.specs.System.{LinearSystem}
use Rattle.reduction.specs.Polynomials.{euclidean}
use Rattle.reduction.specs.Certificate.{RightSolutionIn, RightAbsenceIn}
use Rattle.words.specs.Limits.{Limits}
use Rattle.words.specs.System.{System, SystemWithin, entry, side_entry}
use Rattle.truth.specs.Solution.{DividesModulo, Monic, row_of, column_of, side_of}
use Rattle.truth.specs.Right.{RightSolution, RightAbsence, certified}
use Rattle.solve_meaning.specs.Lists
use Rattle.solve_meaning.specs.Lists.{list_of}
use Rattle.solve_meaning.specs.Equations.{equated, matrix_list, side_list}

-- w = d·g with g the monic greatest common divisor of w and b: document 01's way to d, on lists
module _ (p : ℕ) (prime : Prime p) (d w b g : Polynomial (residues p prime)) where
  abbrev F : Field (Residue p)
  F = residues p prime

  quotient_is : MonicIn F g → Greatest (polynomials F) w b g → w ≡ (polynomials F).mul d g → quotient F w (gcd F w b) ≡ d
  quotient_is mg greatest e = ap₂ (quotient F) e (gcd_unique F w b g mg greatest) ∙ quotient_mul F d g (monic_positive F g mg)

  certified_is : MonicIn F d → MonicIn F g → Greatest (polynomials F) w b g → w ≡ (polynomials F).mul d g
      → Coefficients.monic (modulo p) (Coefficients.quotient (modulo p) (list_of p prime w)
      (Coefficients.gcd (modulo p) (list_of p prime w) (list_of p prime b))) ≡ list_of p prime d
  certified_is md mg greatest e =
      ap (λ f. Coefficients.monic (modulo p) (Coefficients.quotient (modulo p) (list_of p prime w) f))
      (sym (Lists.list_gcd p prime w b))
      ∙ ap (Coefficients.monic (modulo p)) (sym (Lists.list_quotient p prime w (gcd F w b)))
      ∙ sym (Lists.list_monic p prime (quotient F w (gcd F w b)))
      ∙ ap (list_of p prime) (ap (monic F) (quotient_is mg greatest e) ∙ monic_same F d md)

module _ (limits : Limits) (s : System) (h : SystemWithin limits s) where
  abbrev p : ℕ
  p = s.modulus

  abbrev prime : Prime s.modulus
  prime = h.shape.prime

  abbrev R : Ring (Polynomial (residues s.modulus h.shape.prime))
  R = polynomials (residues s.modulus h.shape.prime)

  abbrev T : LinearSystem (sized (residues s.modulus h.shape.prime))
  T = equated limits s h

  abbrev list : Polynomial (residues s.modulus h.shape.prime) → List ℕ
  list = list_of s.modulus h.shape.prime

  -- products with the matrix, of a vector whose lists are fs
  module _ (x : ℕ → Polynomial (residues s.modulus h.shape.prime)) (fs : List (List ℕ)) where
    pub row_is : ((j : ℕ) → j < s.columns → get_or fs j [] ≡ list (x j)) → (i : ℕ)
        → row_of s fs i ≡ list (sum R s.columns (λ j. R.mul (T.matrix i j) (x j)))
    unfolding row_of
    row_is e i = Lists.list_products p prime s.columns (T.matrix i) x (entry s i) (λ j. get_or fs j [])
        (λ j l. sym (matrix_list limits s h i j)) e

    module _ (e : (i : ℕ) → i < s.rows → get_or fs i [] ≡ list (x i)) where
      pub column_is : (j : ℕ) → column_of s fs j ≡ list (sum R s.rows (λ i. R.mul (x i) (T.matrix i j)))
      unfolding column_of
      column_is j = Lists.list_products p prime s.rows x (λ i. T.matrix i j) (λ i. get_or fs i []) (λ i. entry s i j)
          e (λ i l. sym (matrix_list limits s h i j))

      pub side_is : side_of s fs ≡ list (sum R s.rows (λ i. R.mul (x i) (T.side i)))
      unfolding side_of
      side_is = Lists.list_products p prime s.rows x T.side (λ i. get_or fs i []) (side_entry s)
          e (λ i l. sym (side_list limits s h i))

  -- the lists of a right solution are a right solution
  module _
      {D W : Polynomial (residues s.modulus h.shape.prime)}
      {ν ζ : ℕ → Polynomial (residues s.modulus h.shape.prime)}
      (C : RightSolutionIn (euclidean (residues s.modulus h.shape.prime)) T D ν W ζ)
      (d w : List ℕ) (N Z : List (List ℕ)) (ed : d ≡ list D) (ew : w ≡ list W)
      (e_N : (j : ℕ) → j < s.columns → get_or N j [] ≡ list (ν j)) (e_Z : (i : ℕ) → i < s.rows → get_or Z i [] ≡ list (ζ i)) where
    row_solved : (i : ℕ) → i < s.rows → row_of s N i ≡ Coefficients.mul (modulo p) d (side_entry s i)
    row_solved i k =
        row_is ν N e_N i
        ∙ ap list (C.solves i k)
        ∙ Lists.list_mul p prime D (T.side i)
        ∙ ap₂ (Coefficients.mul (modulo p)) (sym ed) (side_list limits s h i)

    column_divided : (j : ℕ) → j < s.columns → DividesModulo p w (column_of s Z j)
    column_divided j k = subst (λ f. DividesModulo p f (column_of s Z j)) (sym ew)
        (subst (DividesModulo p (list W)) (sym (column_is ζ Z e_Z j)) (Lists.list_divides p prime (C.divides j k)))

    denominator_is : certified s w Z ≡ d
    unfolding certified
    denominator_is =
        ap₂ (λ f b. Coefficients.monic (modulo p) (Coefficients.quotient (modulo p) f (Coefficients.gcd (modulo p) f b)))
        ew (side_is ζ Z e_Z)
        ∙ certified_is p prime D W (sum R s.rows (λ i. R.mul (ζ i) (T.side i))) C.divisor
        C.monic C.divisor_monic C.divisor_greatest C.quotient
        ∙ sym ed

    pub solution_right : RightSolution s d N w Z
    solution_right = record {
      monic = subst (Monic p) (sym ed) (Lists.list_is_monic p prime D C.monic);
      certifying_monic = subst (Monic p) (sym ew) (Lists.list_is_monic p prime W C.certifying_monic_lem);
      rows = row_solved;
      columns = column_divided;
      denominators = denominator_is;
    }

  -- and those of a right absence
  pub absence_right : {κ : ℕ → Polynomial (residues s.modulus h.shape.prime)}
      → RightAbsenceIn (euclidean (residues s.modulus h.shape.prime)) T κ
      → (q : List (List ℕ)) → ((i : ℕ) → i < s.rows → get_or q i [] ≡ list (κ i)) → RightAbsence s q
  absence_right {κ} C q e = record {
    columns = λ j k. column_is κ q e j ∙ ap list (C.kills j k) ∙ Lists.list_zero p prime;
    side = λ z. C.nonzero (Lists.list_none p prime _ (sym (side_is κ q e) ∙ z));
  }
