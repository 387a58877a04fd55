-- 31 to 36: refused with a number at a place exactly when that row's condition holds there and no earlier one does.
use Prim.Native.Nat.{ℕ, zero, suc, ◌<◌}
use Rattle.std.specs.Prelude.{◌≡◌, ◌↔◌, ◌⊎◌, Bool, true, false, not, List, [], ◌∷◌}
use Rattle.std.proofs.Math.Path.{refl, ap, subst}
use Rattle.std.proofs.Common.{sym, ◌∙◌, arith, eqb-true, eq-eqb}
use Rattle.std.proofs.Math.Logic.{inl, inr}
use Rattle.std.proofs.Math.Decide.{ℕ_discrete}
use Rattle.std.proofs.lemmas.Bool.{not-false}
use Rattle.algebra.specs.Coefficients.{mul, leading, remainder}
use Rattle.modular.specs.Modulo.{modulo}
use Rattle.words.specs.Limits.{Limits}
use Rattle.words.specs.Outcome.{Outcome, refuse}
use Rattle.words.specs.Outcome.Outcome.{accepted, refused}
use Rattle.words.specs.OutcomeLaws.{refused_accepted}
use Rattle.words.specs.System.{System, shape, side_entry, SystemWithin}
use Rattle.words.specs.Certificate.{Certificate, CertificateWithin}
use Rattle.words.specs.Certificate.Certificate.{solution, absence}
use Rattle.words.specs.Rows.{InRow, InRows, row_with, value_rows}
use Rattle.truth.specs.Solution.{row_of, column_of, side_of, Monic}
use Rattle.truth.specs.Right.{certified}
use Rattle.truth.specs.Verdict.{monic?, zero?, same?, refuse_first, solution_verdict, absence_verdict, certificate_verdict}
use Rattle.truth.specs.RefusalLaws
use Rattle.truth.specs.Lift.{Proper}
use Rattle.truth.specs.ProperSolution.{ProperSolution}
use Rattle.truth.proofs.Accepted.{column_divides, divides_column, proper, proper_solution}
use Rattle.truth.proofs.CertifiedLaws.{certified_iff, certifying_nonzero}
use Rattle.truth.specs.TurnedBack.{FirstFailing, All, RowSolved, ColumnDivided, SameDenominators, ColumnZero}
use Rattle.truth.specs.TurnedBack.{SolutionFault, AbsenceFault, Fault}
use Rattle.truth.specs.TurnedBack.SolutionFault.{not_monic, certifying_not_monic, row, column, denominators}
use Rattle.truth.specs.TurnedBack.AbsenceFault.{product, side}

-- a test passes just where something holds
abbrev Passes : Bool → Type 0 → Type 0
Passes t Holds = (t ≡ false) ↔ Holds

pub true_false : {t : Bool} → t ≡ true → ¬ (t ≡ false)
true_false e f = let z : ◌≡◌ {A = ℕ} 0 1 = cc in omega arith

-- a row for one place
module _ {A : Type 0} {t : Bool} {Holds : Type 0} (test : Passes t Holds) (number place : ℕ) (next : Outcome A) where
  row_here : ¬ Holds → refuse t number place next ≡ refused number place
  row_here h = go t refl
    where
      go : (b : Bool) → t ≡ b → refuse b number place next ≡ refused number place
      go true e = refl
      go false e = absurd (h (test.0 e))

  row_past : Holds → refuse t number place next ≡ next
  row_past h = ap (λ b. refuse b number place next) (test.1 h)

  row_cases : {x y : ℕ} → refuse t number place next ≡ refused x y
      → ((x ≡ number) × (y ≡ place) × (¬ Holds)) ⊎ (Holds × (next ≡ refused x y))
  row_cases {x} {y} = go t refl
    where
      go : (b : Bool) → t ≡ b → refuse b number place next ≡ refused x y
          → ((x ≡ number) × (y ≡ place) × (¬ Holds)) ⊎ (Holds × (next ≡ refused x y))
      go true e r = inl (cc, cc, λ h. true_false e (test.1 h))
      go false e r = inr (test.0 e, r)

-- a row for several places
module _ {A : Type 0} (holds : ℕ → Bool) (Holds : ℕ → Type 0) (test : (i : ℕ) → Passes (holds i) (Holds i)) (number : ℕ) where
  rows_past : (n : ℕ) (next : Outcome A) → All n Holds → refuse_first n holds number next ≡ next
  unfolding refuse_first
  rows_past zero next h = refl
  rows_past (suc n) next h =
      rows_past n (refuse (holds n) number n next) (λ i k. h i (omega arith)) ∙ row_past (test n) number n next (h n (omega arith))

  rows_here : (n : ℕ) (next : Outcome A) (place : ℕ) → FirstFailing n Holds place
      → refuse_first n holds number next ≡ refused number place
  unfolding refuse_first
  rows_here zero next place f = absurd (omega (arith, f.inside))
  rows_here (suc n) next place f = go (ℕ_discrete place n) (rows_here n (refuse (holds n) number n next) place)
    where
      go : Dec (place ≡ n)
          → (FirstFailing n Holds place → refuse_first n holds number (refuse (holds n) number n next) ≡ refused number place)
          → refuse_first n holds number (refuse (holds n) number n next) ≡ refused number place
      go (yes e) earlier = rows_past n (refuse (holds n) number n next) (λ i k. f.before i (omega arith))
          ∙ row_here (test n) number n next (subst (λ i. ¬ Holds i) e f.fails) ∙ ap (refused number) (sym e)
      go (no e) earlier = earlier (record { inside = omega (arith, f.inside); before = f.before; fails = f.fails })

  rows_cases : (n : ℕ) (next : Outcome A) {x y : ℕ} → refuse_first n holds number next ≡ refused x y
      → ((x ≡ number) × FirstFailing n Holds y) ⊎ (All n Holds × (next ≡ refused x y))
  unfolding refuse_first
  rows_cases zero next r = inr (λ i k. absurd (omega arith), r)
  rows_cases (suc n) next {x} {y} r = go (rows_cases n (refuse (holds n) number n next) r)
    where
      last : All n Holds → ((x ≡ number) × (y ≡ n) × (¬ Holds n)) ⊎ (Holds n × (next ≡ refused x y))
          → ((x ≡ number) × FirstFailing (suc n) Holds y) ⊎ (All (suc n) Holds × (next ≡ refused x y))
      last h (inl f) = inl (
        f.0,
        record {
          inside = omega (arith, f.1);
          before = λ i k. h i (omega (arith, f.1));
          fails = subst (λ i. ¬ Holds i) (sym f.1) f.2;
        },
      )
      last h (inr f) = inr (λ i k. at i k (ℕ_discrete i n), f.1)
        where
          at : (i : ℕ) → i < suc n → Dec (i ≡ n) → Holds i
          at i k (yes e) = subst Holds (sym e) f.0
          at i k (no e) = h i (omega arith)

      go : ((x ≡ number) × FirstFailing n Holds y) ⊎ (All n Holds × (refuse (holds n) number n next ≡ refused x y))
          → ((x ≡ number) × FirstFailing (suc n) Holds y) ⊎ (All (suc n) Holds × (next ≡ refused x y))
      go (inl f) = inl (f.0, record { inside = omega (arith, f.1.inside); before = f.1.before; fails = f.1.fails })
      go (inr f) = last f.0 (row_cases (test n) number n next f.1)

-- ---- the tests

zero_passes : (f : List ℕ) → Passes (not (zero? f)) (f ≡ [])
zero_passes f = (λ e. RefusalLaws.zero?_true f (not-false _ e), λ e. RefusalLaws.true_not (ap zero? e))

same_passes : (f g : List ℕ) → Passes (not (same? f g)) (f ≡ g)
same_passes f g = (λ e. RefusalLaws.same?_true f g (not-false _ e), λ e. RefusalLaws.true_not (RefusalLaws.true_same? f g e))

monic_passes : (p : ℕ) (f : List ℕ) → Passes (not (monic? p f)) (Monic p f)
unfolding Monic
monic_passes p f = (
  λ e. eqb-true (leading (modulo p) f) 1 (not-false _ e),
  λ e. RefusalLaws.true_not
      (eq-eqb (leading (modulo p) f) 1 e),
)

nonzero_passes : (f : List ℕ) → Passes (zero? f) (¬ (f ≡ []))
nonzero_passes f = (RefusalLaws.zero?_false f, RefusalLaws.nonzero_zero? f)

not_nonzero : (f : List ℕ) → ¬ (¬ (f ≡ [])) → f ≡ []
not_nonzero [] h = refl
not_nonzero (a ∷ f) h = absurd (h (RefusalLaws.zero?_false (a ∷ f) refl))

-- ---- 31 to 34

module _ (s : System) (h : Proper s) {d : List ℕ} {N : List (List ℕ)} {w : List ℕ} {Z : List (List ℕ)}
    (P : ProperSolution s d N w Z) where
  abbrev p : ℕ
  p = s.modulus

  wrong_row : ℕ → Bool
  wrong_row i = not (same? (row_of s N i) (mul (modulo p) d (side_entry s i)))

  wrong_column : ℕ → Bool
  wrong_column j = not (zero? (remainder (modulo p) (column_of s Z j) w))

  row_passes : (i : ℕ) → Passes (wrong_row i) (RowSolved s d N i)
  unfolding wrong_row
  row_passes i = same_passes (row_of s N i) (mul (modulo p) d (side_entry s i))

  column_passes : (j : ℕ) → Passes (wrong_column j) (ColumnDivided s w Z j)
  unfolding wrong_column
  column_passes j =
      let zero = zero_passes (remainder (modulo p) (column_of s Z j) w) in (
        λ e. column_divides s h w Z P.certifying_denominator P.certifying_numerators j (zero.0 e),
        λ v. zero.1 (divides_column s h w Z P.certifying_denominator P.certifying_numerators j v),
      )

  denominators_pass : Monic p w → Passes (not (same? (certified s w Z) d)) (SameDenominators s d w Z)
  denominators_pass m =
      let same = same_passes (certified s w Z) d in
      let iff = certified_iff s h Z P.certifying_numerators w P.certifying_denominator (certifying_nonzero s h P m) d in
      (λ e. iff.0 (same.0 e), λ D. same.1 (iff.1 D))

  from_34 : Outcome (Unit {0})
  from_34 = refuse (not (same? (certified s w Z) d)) 34 0 (accepted tt)

  from_33 : Outcome (Unit {0})
  from_33 = refuse_first s.columns wrong_column 33 from_34

  from_32 : Outcome (Unit {0})
  from_32 = refuse_first s.rows wrong_row 32 from_33

  from_31 : Outcome (Unit {0})
  from_31 = refuse (not (monic? p w)) 31 1 from_32

  past_31 : Monic p d → Monic p w → solution_verdict s d N w Z ≡ from_32
  unfolding solution_verdict from_31 from_32 from_33 from_34 wrong_row wrong_column
  past_31 a b = row_past (monic_passes p d) 31 0 from_31 a ∙ row_past (monic_passes p w) 31 1 from_32 b

  past_32 : All s.rows (RowSolved s d N) → from_32 ≡ from_33
  unfolding from_32
  past_32 r = rows_past wrong_row (RowSolved s d N) row_passes 32 s.rows from_33 r

  past_33 : All s.columns (ColumnDivided s w Z) → from_33 ≡ from_34
  unfolding from_33
  past_33 c = rows_past wrong_column (ColumnDivided s w Z) column_passes 33 s.columns from_34 c

  module _ {number place : ℕ} where
    fault_refused : SolutionFault s d N w Z number place → solution_verdict s d N w Z ≡ refused number place
    unfolding solution_verdict from_31 from_32 from_33 from_34 wrong_row wrong_column
    fault_refused (not_monic e f a) = row_here (monic_passes p d) 31 0 from_31 a ∙ (cc)
    fault_refused (certifying_not_monic e f a b) =
        row_past (monic_passes p d) 31 0 from_31 a ∙ row_here (monic_passes p w) 31 1 from_32 b ∙ (cc)
    fault_refused (row e a b f) = past_31 a b ∙ rows_here wrong_row (RowSolved s d N) row_passes 32 s.rows from_33 place f ∙ (cc)
    fault_refused (column e a b r f) = past_31 a b ∙ past_32 r
        ∙ rows_here wrong_column (ColumnDivided s w Z) column_passes 33 s.columns from_34 place f ∙ (cc)
    fault_refused (denominators e f a b r c n) =
        past_31 a b ∙ past_32 r ∙ past_33 c ∙ row_here (denominators_pass b) 34 0 (accepted tt) n ∙ (cc)

    refused_fault : solution_verdict s d N w Z ≡ refused number place → SolutionFault s d N w Z number place
    unfolding solution_verdict from_31 from_32 from_33 from_34 wrong_row wrong_column
    refused_fault e = first (row_cases (monic_passes p d) 31 0 from_31 e)
      where
        fifth : Monic p d → Monic p w → All s.rows (RowSolved s d N) → All s.columns (ColumnDivided s w Z)
            → ((number ≡ 34) × (place ≡ 0) × (¬ SameDenominators s d w Z))
            ⊎ (SameDenominators s d w Z × (◌≡◌ {A = Outcome (Unit {0})} (accepted tt) (refused number place)))
            → SolutionFault s d N w Z number place
        fifth a b r c (inl f) = denominators f.0 f.1 a b r c f.2
        fifth a b r c (inr f) = absurd (refused_accepted (sym f.1))

        fourth : Monic p d → Monic p w → All s.rows (RowSolved s d N)
            → ((number ≡ 33) × FirstFailing s.columns (ColumnDivided s w Z) place)
            ⊎ (All s.columns (ColumnDivided s w Z) × (from_34 ≡ refused number place)) → SolutionFault s d N w Z number place
        fourth a b r (inl f) = column f.0 a b r f.1
        fourth a b r (inr f) = fifth a b r f.0 (row_cases (denominators_pass b) 34 0 (accepted tt) f.1)

        third : Monic p d → Monic p w
            → ((number ≡ 32) × FirstFailing s.rows (RowSolved s d N) place)
            ⊎ (All s.rows (RowSolved s d N) × (from_33 ≡ refused number place))
            → SolutionFault s d N w Z number place
        third a b (inl f) = row f.0 a b f.1
        third a b (inr f) = fourth a b f.0 (rows_cases wrong_column (ColumnDivided s w Z) column_passes 33 s.columns from_34
            f.1)

        second : Monic p d → ((number ≡ 31) × (place ≡ 1) × (¬ Monic p w)) ⊎ (Monic p w × (from_32 ≡ refused number place))
            → SolutionFault s d N w Z number place
        second a (inl f) = certifying_not_monic f.0 f.1 a f.2
        second a (inr f) = third a f.0 (rows_cases wrong_row (RowSolved s d N) row_passes 32 s.rows from_33 f.1)

        first : ((number ≡ 31) × (place ≡ 0) × (¬ Monic p d)) ⊎ (Monic p d × (from_31 ≡ refused number place))
            → SolutionFault s d N w Z number place
        first (inl f) = not_monic f.0 f.1 f.2
        first (inr f) = second f.0 (row_cases (monic_passes p w) 31 1 from_32 f.1)

    pub solution_refused_iff : (solution_verdict s d N w Z ≡ refused number place) ↔ SolutionFault s d N w Z number place
    solution_refused_iff = (refused_fault, fault_refused)

-- ---- 35 and 36

module _ (s : System) (q : List (List ℕ)) where
  wrong_product : ℕ → Bool
  wrong_product j = not (zero? (column_of s q j))

  product_passes : (j : ℕ) → Passes (wrong_product j) (ColumnZero s q j)
  unfolding wrong_product
  product_passes j = zero_passes (column_of s q j)

  from_36 : Outcome (Unit {0})
  from_36 = refuse (zero? (side_of s q)) 36 0 (accepted tt)

  module _ {number place : ℕ} where
    fault_absent : AbsenceFault s q number place → absence_verdict s q ≡ refused number place
    unfolding absence_verdict wrong_product from_36
    fault_absent (product e f) = rows_here wrong_product (ColumnZero s q) product_passes 35 s.columns from_36 place f ∙ (cc)
    fault_absent (side e f c z) = rows_past wrong_product (ColumnZero s q) product_passes 35 s.columns from_36 c
        ∙ row_here (nonzero_passes (side_of s q)) 36 0 (accepted tt) (λ n. n z) ∙ (cc)

    absent_fault : absence_verdict s q ≡ refused number place → AbsenceFault s q number place
    unfolding absence_verdict wrong_product from_36
    absent_fault e = first (rows_cases wrong_product (ColumnZero s q) product_passes 35 s.columns from_36 e)
      where
        second : All s.columns (ColumnZero s q) → ((number ≡ 36) × (place ≡ 0) × (¬ (¬ (side_of s q ≡ []))))
            ⊎ ((¬ (side_of s q ≡ [])) × (◌≡◌ {A = Outcome (Unit {0})} (accepted tt) (refused number place)))
            → AbsenceFault s q number place
        second c (inl f) = side f.0 f.1 c (not_nonzero (side_of s q) f.2)
        second c (inr f) = absurd (refused_accepted (sym f.1))

        first : ((number ≡ 35) × FirstFailing s.columns (ColumnZero s q) place)
            ⊎ (All s.columns (ColumnZero s q) × (from_36 ≡ refused number place)) → AbsenceFault s q number place
        first (inl f) = product f.0 f.1
        first (inr f) = second f.0 (row_cases (nonzero_passes (side_of s q)) 36 0 (accepted tt) f.1)

    pub absence_refused_iff : (absence_verdict s q ≡ refused number place) ↔ AbsenceFault s q number place
    absence_refused_iff = (absent_fault, fault_absent)

-- ---- any certificate within the limits

pub in_row : {n below number place : ℕ} → number ≡ n → place < below → InRow (row_with n n 0 below) number place
in_row e h = record { from = omega arith; to = omega arith; after = omega arith; before = h }

pub refused_iff_fault : (limits : Limits) (s : System) → SystemWithin limits s → (c : Certificate)
    → CertificateWithin limits (shape s) c
    → (number place : ℕ) → (certificate_verdict s c ≡ refused number place) ↔ Fault s c number place
unfolding certificate_verdict CertificateWithin Fault
refused_iff_fault limits s h (solution d N w Z) k number place =
    solution_refused_iff s (proper limits s h) (proper_solution limits s d N w Z k)
refused_iff_fault limits s h (absence q) k number place = absence_refused_iff s q

-- "31: d (place 0, tried first) or w (place 1)"; 32 at a row; 33 and 35 at a column; 34 and 36 at 0
pub fault_rows : (s : System) (c : Certificate) (number place : ℕ) → Fault s c number place
    → InRows (value_rows (shape s)) number place
unfolding Fault InRows
fault_rows s (solution d N w Z) number place (not_monic e f a) = inl (in_row e (omega arith))
fault_rows s (solution d N w Z) number place (certifying_not_monic e f a b) = inl (in_row e (omega arith))
fault_rows s (solution d N w Z) number place (row e a b f) = inr (inl (in_row e f.inside))
fault_rows s (solution d N w Z) number place (column e a b r f) = inr (inr (inl (in_row e f.inside)))
fault_rows s (solution d N w Z) number place (denominators e f a b r c n) = inr (inr (inr (inl (in_row e (omega arith)))))
fault_rows s (absence q) number place (product e f) = inr (inr (inr (inr (inl (in_row e f.inside)))))
fault_rows s (absence q) number place (side e f c z) = inr (inr (inr (inr (inr (inl (in_row e (omega arith)))))))
