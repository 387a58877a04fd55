-- Demand 2: "a card is accepted for a sheet when the check, handed the words of both, turns nothing back, and that is exactly when
-- the card's words are the written form of a right card or of an absence card for that sheet, all degrees at most 120".
use Rattle.std.specs.Prelude.{ℕ, ◌≡◌, refl, ◌↔◌, Bool, not, List, [], ◌∷◌}
use Rattle.std.proofs.Math.Path.{sym, ap, subst}
use Rattle.std.proofs.Common.{◌∙◌}
use borrow.Author.Tests.{eqb-true, eq-eqb, not-false}
use Rattle.algebra.specs.Coefficients.{mul, leading, remainder}
use Rattle.modular.specs.Modulo.{modulo}
use Rattle.modular.specs.Canonical.{Canonical}
use Rattle.modular.specs.Values.{NumberPolynomial, equal_numbers}
use Rattle.modular.specs.Numbers.{numbers}
use Rattle.modular.specs.DivisionLaws.{division_laws}
use Rattle.words.specs.Limits.{Limits}
use Rattle.words.specs.LimitsLaws.{LimitsFit}
use Rattle.words.specs.Polynomial.{AllWithin}
use Rattle.words.specs.System.{System, shape, side_entry, SystemWithin}
use Rattle.words.specs.Certificate.{Certificate, CertificateWithin, SolutionWithin}
use Rattle.words.specs.Certificate.Certificate.{solution, absence}
use Rattle.words.specs.Outcome.{Outcome, refuse}
use Rattle.words.specs.Outcome.Outcome.{accepted}
use Rattle.words.specs.OutcomeLaws.{refuse_passed, passed_refuse}
use Rattle.words.specs.Line.{LineIn}
use Rattle.words.proofs.LineLaws.{line_in_within}
use Rattle.words.specs.Pair.{WrittenPair, one_line}
use Rattle.words.proofs.PairLaws.{written_map, pair_of_written, pair_accepted_iff}
use Rattle.words.proofs.SourceLaws.{line_laws}
use Rattle.truth.specs.Solution.{AllCanonical, Monic, DividesModulo, row_of, column_of, side_of}
use Rattle.truth.specs.Right.{RightSolution, RightAbsence, Right, certified}
use Rattle.truth.specs.Verdict.{monic?, zero?, same?, refuse_first, solution_verdict, absence_verdict, certificate_verdict}
use Rattle.truth.specs.Verdict.{verdict}
use Rattle.truth.specs.Lift.{Proper, ring_of, equations, vector, column_list, divides_list, divides_lift}
use Rattle.truth.specs.ProperSolution.{ProperSolution}
use Rattle.truth.specs.RefusalLaws
use Rattle.truth.specs.Witness

pub all_canonical : (p limit : ℕ) (fs : List (List ℕ)) → AllWithin p limit fs → AllCanonical p fs
unfolding AllWithin AllCanonical
all_canonical p limit [] h = tt
all_canonical p limit (f ∷ fs) h = (h.0.canonical, all_canonical p limit fs h.1)

-- what keeps the limits is proper
pub proper : (limits : Limits) (s : System) → SystemWithin limits s → Proper s
proper limits s h = record {
  prime = h.shape.prime;
  matrix = all_canonical s.modulus limits.system_coefficients s.matrix h.matrix.entries;
  side = all_canonical s.modulus limits.system_coefficients s.side h.side.entries;
}

pub proper_solution : (limits : Limits) (s : System) (d : List ℕ) (N : List (List ℕ)) (w : List ℕ) (Z : List (List ℕ))
    → SolutionWithin limits (shape s) d N w Z → ProperSolution s d N w Z
proper_solution limits s d N w Z h = record {
  denominator = h.denominator.canonical;
  numerators = all_canonical s.modulus limits.certificate_coefficients N h.numerators.entries;
  count = h.numerators.count;
  certifying_denominator = h.certifying_denominator.canonical;
  certifying_numerators = all_canonical s.modulus limits.certificate_coefficients Z h.certifying_numerators.entries;
}

module _ (s : System) (h : Proper s) where
  abbrev p : ℕ
  p = s.modulus

  -- the test of 33: the remainder is zero just where w divides
  module _ (w : List ℕ) (Z : List (List ℕ)) (hw : Canonical s.modulus w) (h_Z : AllCanonical s.modulus Z) where
    abbrev W : NumberPolynomial s.modulus
    W = (w, hw)

    abbrev column : ℕ → NumberPolynomial s.modulus
    column j = Witness.column_of (ring_of s h) (equations s h) (vector s.modulus Z h_Z) j

    remainder_list : (j : ℕ) → remainder (modulo p) (column j).0 w ≡ remainder (modulo p) (column_of s Z j) w
    remainder_list j = ap (λ f. remainder (modulo p) f w) (column_list s h Z h_Z j)

    pub column_divides : (j : ℕ) → remainder (modulo p) (column_of s Z j) w ≡ [] → DividesModulo p w (column_of s Z j)
    unfolding numbers
    column_divides j e = subst (DividesModulo p w) (column_list s h Z h_Z j)
        (divides_list p h.prime {d = W} {f = column j}
        ((division_laws p h.prime).remainder_divides (column j) W (equal_numbers p _ _ (remainder_list j ∙ e))))

    pub divides_column : (j : ℕ) → DividesModulo p w (column_of s Z j) → remainder (modulo p) (column_of s Z j) w ≡ []
    unfolding numbers
    divides_column j d = sym (remainder_list j) ∙ ap (λ x. x.0) ((division_laws p h.prime).divides_remainder (column j) W
        (divides_lift p h.prime W (column j) (subst (DividesModulo p w) (sym (column_list s h Z h_Z j)) d)))

  -- the rows 31 to 34 and the four conditions
  module _ {d : List ℕ} {N : List (List ℕ)} {w : List ℕ} {Z : List (List ℕ)} (P : ProperSolution s d N w Z) where
    wrong_row : ℕ → Bool
    wrong_row i = not (same? (row_of s N i) (mul (modulo p) d (side_entry s i)))

    wrong_column : ℕ → Bool
    wrong_column j = not (zero? (remainder (modulo p) (column_of s Z j) w))

    from_34 : Outcome (Unit {0})
    from_34 = refuse (not (same? (certified s w Z) d)) 34 0 (accepted tt)

    from_33 : Outcome (Unit {0})
    from_33 = refuse_first s.columns wrong_column 33 from_34

    from_32 : Outcome (Unit {0})
    from_32 = refuse_first s.rows wrong_row 32 from_33

    from_31 : Outcome (Unit {0})
    from_31 = refuse (not (monic? p w)) 31 1 from_32

    pub accepted_right : solution_verdict s d N w Z ≡ accepted tt → RightSolution s d N w Z
    unfolding solution_verdict Monic from_31 from_32 from_33 from_34 wrong_row wrong_column
    accepted_right e =
        let first = refuse_passed (not (monic? p d)) 31 0 from_31 e in
        let second = refuse_passed (not (monic? p w)) 31 1 from_32 first.1 in
        let rows = RefusalLaws.refuse_first_passed s.rows wrong_row 32 from_33 tt second.1 in
        let columns = RefusalLaws.refuse_first_passed s.columns wrong_column 33 from_34 tt rows.rest in
        let last = refuse_passed (not (same? (certified s w Z) d)) 34 0 (accepted tt) columns.rest in
        record {
          monic = eqb-true (leading (modulo p) d) 1 (not-false (monic? p d) first.0);
          certifying_monic = eqb-true (leading (modulo p) w) 1 (not-false (monic? p w) second.0);
          rows = λ i k. RefusalLaws.same?_true _ _ (not-false _ (rows.free i k));
          columns = λ j k. column_divides w Z P.certifying_denominator P.certifying_numerators j
              (RefusalLaws.zero?_true _ (not-false _ (columns.free j k)));
          denominators = RefusalLaws.same?_true (certified s w Z) d (not-false _ last.0);
        }

    pub right_accepted : RightSolution s d N w Z → solution_verdict s d N w Z ≡ accepted tt
    unfolding solution_verdict Monic from_31 from_32 from_33 from_34 wrong_row wrong_column
    right_accepted C =
        passed_refuse _ 31 0 _ (RefusalLaws.true_not (eq-eqb (leading (modulo p) d) 1 C.monic))
        (passed_refuse _ 31 1 _ (RefusalLaws.true_not (eq-eqb (leading (modulo p) w) 1 C.certifying_monic))
        (RefusalLaws.passed_refuse_first s.rows wrong_row 32 _ tt
        (λ i k. RefusalLaws.true_not (RefusalLaws.true_same? _ _ (C.rows i k)))
        (RefusalLaws.passed_refuse_first s.columns wrong_column 33 _ tt
        (λ j k.
        RefusalLaws.true_not (ap zero? (divides_column w Z P.certifying_denominator P.certifying_numerators j
        (C.columns j k))))
        (passed_refuse _ 34 0 _ (RefusalLaws.true_not (RefusalLaws.true_same? _ _ C.denominators)) refl))))

-- the rows 35 and 36
module _ (s : System) (q : List (List ℕ)) where
  wrong_product : ℕ → Bool
  wrong_product j = not (zero? (column_of s q j))

  pub accepted_absent : absence_verdict s q ≡ accepted tt → RightAbsence s q
  unfolding absence_verdict wrong_product
  accepted_absent e =
      let columns = RefusalLaws.refuse_first_passed s.columns wrong_product 35 (refuse (zero? (side_of s q)) 36 0 (accepted tt))
      tt e in
      let last = refuse_passed (zero? (side_of s q)) 36 0 (accepted tt) columns.rest in
      record {
        columns = λ j k. RefusalLaws.zero?_true _ (not-false _ (columns.free j k));
        side = RefusalLaws.zero?_false _ last.0;
      }

  pub absent_accepted : RightAbsence s q → absence_verdict s q ≡ accepted tt
  unfolding absence_verdict wrong_product
  absent_accepted C =
      RefusalLaws.passed_refuse_first s.columns wrong_product 35 _ tt (λ j k. RefusalLaws.true_not (ap zero? (C.columns j k)))
      (passed_refuse _ 36 0 _ (RefusalLaws.nonzero_zero? _ C.side) refl)

-- ---- demand 2

-- the words are the written forms of systems within the limits that have right side k, and of a right certificate for its line
abbrev pub AcceptedWords : Limits → (k : ℕ) → (ws cs : List ℕ) → Type 0
AcceptedWords limits k ws cs = WrittenPair limits (one_line limits k) Right ws cs

module _ (limits : Limits) (fit : LimitsFit limits) where
  pub verdict_right : (s : System) (h : SystemWithin limits s) (c : Certificate) → CertificateWithin limits (shape s) c
      → certificate_verdict s c ≡ accepted tt → Right s c
  unfolding certificate_verdict Right CertificateWithin
  verdict_right s h (solution d N w Z) k e = accepted_right s (proper limits s h) (proper_solution limits s d N w Z k) e
  verdict_right s h (absence q) k e = accepted_absent s q e

  pub right_verdict : (s : System) (h : SystemWithin limits s) (c : Certificate) → CertificateWithin limits (shape s) c
      → Right s c → certificate_verdict s c ≡ accepted tt
  unfolding certificate_verdict Right CertificateWithin
  right_verdict s h (solution d N w Z) k r = right_accepted s (proper limits s h) (proper_solution limits s d N w Z k) r
  right_verdict s h (absence q) k r = absent_accepted s q r

  -- for each right side by itself
  module _ (k : ℕ) where
    -- the verdict on written forms is that on what they are written of
    pub verdict_of_written : {Of : System → Certificate → Type 0} {ws cs : List ℕ}
        (w : WrittenPair limits (one_line limits k) Of ws cs)
        → verdict limits k ws cs ≡ certificate_verdict w.system w.certificate
    unfolding verdict
    verdict_of_written {ws = ws} {cs} w =
        pair_of_written limits (one_line limits k) certificate_verdict ws cs fit (line_laws limits fit k) w

    module _ (ws cs : List ℕ) where
      within : {s : System} → LineIn limits k s ws → SystemWithin limits s
      within = line_in_within limits fit k ws

      values_accepted : (verdict limits k ws cs ≡ accepted tt)
          ↔ WrittenPair limits (one_line limits k) (λ s c. certificate_verdict s c ≡ accepted tt) ws cs
      unfolding verdict
      values_accepted = pair_accepted_iff limits (one_line limits k) certificate_verdict ws cs fit (line_laws limits fit k) tt

      pub words_of_accepted : verdict limits k ws cs ≡ accepted tt → AcceptedWords limits k ws cs
      words_of_accepted e =
          written_map limits (one_line limits k) (λ s h. verdict_right s (within h)) (values_accepted.0 e)

      pub accepted_of_words : AcceptedWords limits k ws cs → verdict limits k ws cs ≡ accepted tt
      accepted_of_words a =
          values_accepted.1 (written_map limits (one_line limits k) (λ s h. right_verdict s (within h)) a)

      pub accepted_iff : (verdict limits k ws cs ≡ accepted tt) ↔ AcceptedWords limits k ws cs
      accepted_iff = (words_of_accepted, accepted_of_words)
