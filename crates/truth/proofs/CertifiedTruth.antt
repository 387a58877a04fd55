-- Document 002's conditions alone, with denominators monic or not and in lowest terms or not, certify "that y is a solution with
-- minimal denominator", or "that the system has no rational solution".
use Prim.Native.Nat.{ℕ, zero, suc, ◌<◌}
use Rattle.std.specs.Prelude.{◌≡◌, List, [], ◌∷◌}
use Rattle.std.proofs.Common.{sym, ◌∙◌, arith}
use Rattle.std.proofs.Math.Path.{subst}
use Rattle.ring.specs.Ring.{Ring}
use Rattle.ring.specs.Sum.{sum}
use Rattle.algebra.specs.Coefficients.{mul}
use Rattle.algebra.specs.Sized.{cancel_mul}
use Rattle.algebra.specs.Divides.{Divides as DividesIn}
use Rattle.modular.specs.Modulo.{modulo}
use Rattle.modular.specs.Canonical.{Canonical}
use Rattle.modular.specs.Residue.{Residue}
use Rattle.modular.specs.Values.{NumberPolynomial}
use Rattle.modular.specs.Arithmetic.{Arithmetic}
use Rattle.modular.specs.Carried.{number_arithmetic}
use Rattle.modular.specs.SizeLaws.{sized}
use Rattle.modular.specs.DivisionLaws.{division_laws}
use Rattle.modular.specs.Numbers.{numbers}
use Rattle.words.specs.System.{System}
use Rattle.truth.specs.Solution.{AllCanonical, RationalSolution, DividesModulo, Clears, LeastDenominator, side_of}
use Rattle.truth.specs.Lift.{Proper, ring_of, equations, vector, column_list, side_list, divides_list, divides_lift}
use Rattle.truth.proofs.Truth.{solves, right_absent}
use Rattle.truth.proofs.Denominators.{denominator_divides}
use Rattle.truth.specs.Certified.{CertifiedSolution, CertifiedAbsence}
use Rattle.truth.proofs.CertifiedLaws.{whole_iff, side_canonical, absent_iff_certified}
use Rattle.truth.specs.Witness.{clearing_side}
use Rattle.truth.specs.Witness

module _ (s : System) (h : Proper s) where
  abbrev p : ℕ
  p = s.modulus

  abbrev R : Ring (NumberPolynomial s.modulus)
  R = ring_of s h

  abbrev S : Arithmetic (Residue s.modulus) (NumberPolynomial s.modulus)
  S = number_arithmetic s.modulus h.prime

  module _ {d : List ℕ} {N : List (List ℕ)} {w : List ℕ} {Z : List (List ℕ)} (hw : Canonical s.modulus w)
      (h_Z : AllCanonical s.modulus Z)
      (C : CertifiedSolution s d N w Z) where
    abbrev W : NumberPolynomial s.modulus
    W = (w, hw)

    abbrev z : ℕ → NumberPolynomial s.modulus
    z = vector s.modulus Z h_Z

    -- lemma 6: whatever clears a rational solution clears z·b
    clears_side : (M : List (List ℕ)) (e : List ℕ) → RationalSolution s M e → (c : List ℕ) → Canonical p c → Clears p c M e
        → Clears p c (side_of s Z ∷ []) w
    unfolding Clears numbers
    clears_side M e X c hc clears zero k =
        subst (λ f. DividesModulo p w (mul (modulo p) c f)) (side_list s h Z h_Z)
        (divides_list p h.prime {d = W} {f = R.mul (c, hc) (Witness.side_of R (equations s h) z)} (record {
          cofactor = Y;
          product = clearing_side R (cancel_mul (sized p h.prime)) (equations s h) W z q columns m (e, X.divisor)
              (solves s h M e X) (c, hc) Q
              (λ j k. (division_laws p h.prime).quotient_exact (R.mul (c, hc) (m j)) (e, X.divisor) (entry j k)
              ∙ R.mul_comm (Q j) (e, X.divisor))
              ∙ R.mul_comm W Y;
        }))
      where
        m : ℕ → NumberPolynomial s.modulus
        m = vector s.modulus M X.numerators

        column : ℕ → NumberPolynomial s.modulus
        column j = Witness.column_of (ring_of s h) (equations s h) z j

        q : ℕ → NumberPolynomial s.modulus
        q j = S.quotient (column j) W

        Q : ℕ → NumberPolynomial s.modulus
        Q j = S.quotient (R.mul (c, hc) (m j)) (e, X.divisor)

        Y : NumberPolynomial s.modulus
        Y = sum R s.columns (λ j. R.mul (q j) (Q j))

        columns : (j : ℕ) → j < s.columns → column j ≡ R.mul W (q j)
        columns j k = (division_laws p h.prime).quotient_exact (column j) W
            (divides_lift p h.prime W (column j)
            (subst (DividesModulo p w) (sym (column_list s h Z h_Z j)) ((whole_iff s h Z h_Z w).1 C.whole j k)))
            ∙ R.mul_comm (q j) W

        entry : (j : ℕ) → j < s.columns → DividesIn (ring_of s h) (e, X.divisor) ((ring_of s h).mul (c, hc) (m j))
        entry j k = divides_lift p h.prime (e, X.divisor) (R.mul (c, hc) (m j))
            (clears j (subst (λ n. j < n) (sym X.count) k))
    clears_side M e X c hc clears (suc j) k = absurd (omega arith)

    pub certified_least : LeastDenominator s C.denominator
    unfolding AllCanonical
    certified_least = record {
      canonical = C.of_solution.canonical;
      monic = C.of_solution.monic;
      divides = λ M e X c hc clears. denominator_divides p h.prime (side_of s Z ∷ []) (side_canonical s h Z h_Z, tt) w hw
          C.certifying
          C.denominator C.of_side c hc (clears_side M e X c hc clears);
      numerators = N;
      over = d;
      solution = C.solves;
      reached = C.of_solution;
    }

  pub certified_absent : (Q : List (List ℕ)) → AllCanonical p Q → (e : List ℕ) → CertifiedAbsence s Q e
      → (M : List (List ℕ)) (f : List ℕ) → ¬ RationalSolution s M f
  certified_absent Q h_Q e C = right_absent s h Q h_Q ((absent_iff_certified s h Q h_Q e C.certifying).1 C)
