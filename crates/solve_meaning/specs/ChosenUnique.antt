-- There is only one chosen certificate of a system, whatever its degrees: over the residues it is what `reduction` shows to be the
-- only one of its kind.
use Rattle.std.specs.Prelude.{ℕ, ◌<◌, ◌≡◌, refl, List, [], ◌∷◌, get_or}
use Rattle.std.proofs.Math.Path.{sym, ap, ap₂}
use Rattle.std.proofs.Common.{◌∙◌, subst, arith, ext_get_or}
use Rattle.std.proofs.Math.ListN.{length}
use Rattle.ring.specs.Ring.{Ring}
use Rattle.ring.specs.Sum.{sum}
use Rattle.ring.specs.Identity.{quotes, identity}
use Rattle.ring.specs.Combination.{given, combination}
use Rattle.algebra.specs.Field.{Field}
use Rattle.algebra.specs.Coefficients
use Rattle.algebra.specs.Polynomial.{Polynomial, polynomials}
use Rattle.algebra.specs.Size.{sized}
use Rattle.algebra.specs.Divides.{Divides as DividesIn}
use Rattle.algebra.specs.Monic.{Monic as MonicIn, monic_nonzero, monic_associates}
use Rattle.modular.specs.Prime.{Prime}
use Rattle.modular.specs.Modulo.{modulo}
use Rattle.modular.specs.Canonical.{Canonical}
use Rattle.modular.specs.Residue.{Residue, residues}
use Rattle.reduction.specs.System.{LinearSystem}
use Rattle.reduction.specs.Numerators.{ReducedNumerators, numerators_unique}
use Rattle.reduction.specs.Certifying.{Certifying, certifying_unique}
use Rattle.reduction.specs.Killing.{Killing, killing_at, killing_unique}
use Rattle.words.specs.Limits.{Limits}
use Rattle.words.specs.System.{System, SystemWithin}
use Rattle.words.specs.Certificate.{Certificate}
use Rattle.words.specs.Certificate.Certificate.{solution, absence}
use Rattle.truth.specs.Solution.{AllCanonical, Clears, Denominator, Monic}
use Rattle.truth.specs.ProperSolution.{ProperSolution}
use Rattle.truth.proofs.Truth.{answer_unique}
use Rattle.truth.proofs.Accepted.{proper}
use Rattle.truth.specs.Lift.{canonical_at}
use Rattle.truth.proofs.Denominators.{denominator_divides}
use Rattle.truth.specs.Chosen.{ChosenSolution, ChosenAbsence, Chosen, combination_of}
use Rattle.solve_meaning.specs.Answers.{answer_of, distinct, least_same, chosen_answers}
use Rattle.solve_meaning.specs.Lists
use Rattle.solve_meaning.specs.Lists.{list_of}
use Rattle.solve_meaning.specs.Vectors
use Rattle.solve_meaning.specs.Vectors.{lists, polynomial_modulo, vector_modulo}
use Rattle.solve_meaning.specs.Equations.{equated, side_list}
use Rattle.solve_meaning.specs.RightLists.{row_is, column_is, side_is}
use Rattle.solve_meaning.specs.PivotLists
use Rattle.solve_meaning.specs.PivotLists.{long, relation_out, pivot_in, column_pivot_in, column_pivot_out}

-- w is the denominator of Z/w: then Z/w is in lowest terms
module _ (p : ℕ) (prime : Prime p) (w : List ℕ) (hw : Canonical p w) (Z : List (List ℕ)) (h_Z : AllCanonical p Z)
    (lowest : Denominator p Z w w) where
  abbrev P : Type 0
  P = Polynomial (residues p prime)

  abbrev R₀ : Ring (Polynomial (residues p prime))
  R₀ = polynomials (residues p prime)

  abbrev w₀ : Polynomial (residues p prime)
  w₀ = polynomial_modulo p prime w hw

  abbrev Z₀ : ℕ → Polynomial (residues p prime)
  Z₀ = vector_modulo p prime Z h_Z

  pub denominator_monic : MonicIn (residues p prime) (polynomial_modulo p prime w hw)
  denominator_monic = Lists.is_monic_list p prime w₀ (subst (Monic p) (Vectors.polynomial_list p prime w hw) lowest.monic)

  pub denominator_nonzero : ¬ (polynomial_modulo p prime w hw ≡ (polynomials (residues p prime)).zero)
  denominator_nonzero = monic_nonzero (residues p prime) w₀ denominator_monic

  module _ (c : Polynomial (residues p prime)) (y : ℕ → Polynomial (residues p prime))
      (terms : (i : ℕ) → i < length Z → R₀.mul c (Z₀ i) ≡ R₀.mul (y i) w₀) where
    clears : Clears p (list_of p prime c) Z w
    unfolding Clears
    clears i l = record {
      quotient = list_of p prime (y i);
      canonical = Lists.list_canonical p prime (y i);
      product = ap (Coefficients.mul (modulo p) (list_of p prime c)) (Vectors.vector_list p prime Z h_Z i)
          ∙ sym (Lists.list_mul p prime c (Z₀ i)) ∙ ap (list_of p prime) (terms i l) ∙ Lists.list_mul p prime (y i) w₀
          ∙ ap (Coefficients.mul (modulo p) (list_of p prime (y i))) (sym (Vectors.polynomial_list p prime w hw));
    }

    pub denominator_lowest : DividesIn (polynomials (residues p prime)) (polynomial_modulo p prime w hw) c
    denominator_lowest = Vectors.polynomial_divides p prime w₀ c w (list_of p prime c) (Vectors.polynomial_list p prime w hw) refl
        (denominator_divides p prime Z h_Z w hw
        (λ z. denominator_nonzero (Lists.list_none p prime w₀ (sym (Vectors.polynomial_list p prime w hw) ∙ z)))
        w lowest (list_of p prime c) (Lists.list_canonical p prime c) clears)

module _ (limits : Limits) (s : System) (h : SystemWithin limits s) where
  abbrev p : ℕ
  p = s.modulus

  abbrev prime : Prime s.modulus
  prime = h.shape.prime

  abbrev F : Field (Residue s.modulus)
  F = residues s.modulus h.shape.prime

  abbrev Q : Type 0
  Q = Polynomial (residues s.modulus h.shape.prime)

  abbrev R : Ring (Polynomial (residues s.modulus h.shape.prime))
  R = polynomials (residues s.modulus h.shape.prime)

  abbrev T : LinearSystem (sized (residues s.modulus h.shape.prime))
  T = equated limits s h

  abbrev list : Q → List ℕ
  list = list_of s.modulus h.shape.prime

  same_lists : (n : ℕ) (f g : List (List ℕ)) (x y : ℕ → Q) → length f ≡ n → length g ≡ n
      → ((i : ℕ) → i < n → get_or f i [] ≡ list (x i)) → ((i : ℕ) → i < n → get_or g i [] ≡ list (y i))
      → ((i : ℕ) → i < n → x i ≡ y i) → f ≡ g
  same_lists n f g x y lf lg ef eg e = ext_get_or [] f g (lf ∙ sym lg)
      (λ i k. ef i (omega arith) ∙ ap list (e i (omega arith)) ∙ sym (eg i (omega arith)))

  -- ---- solutions

  module _ {d : List ℕ} {N : List (List ℕ)} {w : List ℕ} {Z : List (List ℕ)} (C : ChosenSolution s d N w Z) where
    abbrev H : ProperSolution s d N w Z
    H = C.proper

    abbrev D : Polynomial (residues s.modulus h.shape.prime)
    D = polynomial_modulo s.modulus h.shape.prime d C.proper.denominator

    abbrev W : Polynomial (residues s.modulus h.shape.prime)
    W = polynomial_modulo s.modulus h.shape.prime w C.proper.certifying_denominator

    abbrev ν : ℕ → Polynomial (residues s.modulus h.shape.prime)
    ν = vector_modulo s.modulus h.shape.prime N C.proper.numerators

    abbrev ζ : ℕ → Polynomial (residues s.modulus h.shape.prime)
    ζ = vector_modulo s.modulus h.shape.prime Z C.proper.certifying_numerators

    ed : d ≡ list D
    ed = Vectors.polynomial_list p prime d C.proper.denominator

    ew : w ≡ list W
    ew = Vectors.polynomial_list p prime w C.proper.certifying_denominator

    e_N : (j : ℕ) → get_or N j [] ≡ list (ν j)
    e_N = Vectors.vector_list p prime N H.numerators

    e_Z : (i : ℕ) → get_or Z i [] ≡ list (ζ i)
    e_Z = Vectors.vector_list p prime Z H.certifying_numerators

    solves : (i : ℕ) → i < s.rows → sum R s.columns (λ j. R.mul (T.matrix i j) (ν j)) ≡ R.mul D (T.side i)
    solves i k = Vectors.list_injective p prime _ _
        (sym (row_is limits s h ν N (λ j l. e_N j) i) ∙ C.right.rows i k
        ∙ ap₂ (Coefficients.mul (modulo p)) ed (sym (side_list limits s h i)) ∙ sym (Lists.list_mul p prime D (T.side i)))

    reduced : ReducedNumerators (sized F) s.rows s.columns T.matrix ν
    reduced j l v X ne = omega (
      arith,
      C.reduced j l (lists p prime s.columns v) (relation_out limits s h l ne X),
      long limits s h (ν j) (e_N j),
      long limits s h (v j) (Vectors.lists_at p prime s.columns v j l),
    )

    -- Z·b, and the polynomial by which z·b differs from 1/d
    side : Q
    side = sum R s.rows (λ i. R.mul (ζ i) (T.side i))

    t : Q
    t = polynomial_modulo p prime C.inverts.whole C.inverts.canonical

    inverts : R.mul D side ≡ R.add W (R.mul t (R.mul D W))
    unfolding side t
    inverts = Vectors.list_injective p prime _ _
        (Lists.list_mul p prime D side
        ∙ sym (ap₂ (Coefficients.mul (modulo p)) ed (side_is limits s h ζ Z (λ i l. e_Z i)))
        ∙ C.inverts.equal
        ∙ ap₂ (Coefficients.add (modulo p)) ew
        (ap₂ (Coefficients.mul (modulo p)) (Vectors.polynomial_list p prime C.inverts.whole C.inverts.canonical)
        (ap₂ (Coefficients.mul (modulo p)) ed ew ∙ sym (Lists.list_mul p prime D W))
        ∙ sym (Lists.list_mul p prime t (R.mul D W)))
        ∙ sym (Lists.list_add p prime W (R.mul t (R.mul D W))))

    certifying : Certifying (sized F) s.rows s.columns T.matrix T.side D W ζ
    unfolding side
    certifying = record {
      nonzero = denominator_nonzero p prime w C.proper.certifying_denominator Z H.certifying_numerators C.lowest;
      columns = λ j l. Vectors.polynomial_divides p prime W _ w _ ew (column_is limits s h ζ Z (λ i l. e_Z i) j)
          (C.right.columns j l);
      cofactor = R.add side (R.neg (R.mul t W));
      quotient = combination R W (R.mul D (R.add side (R.neg (R.mul t W)))) (given (R.neg R.one) inverts ∷ [])
          (identity R (D ∷ W ∷ side ∷ t ∷ []) (λ ρ q1 q2 q3 q4. search quotes depth 20) refl);
      side = record {
        cofactor = t;
        product = identity R (side ∷ t ∷ W ∷ []) (λ ρ q1 q2 q3. search quotes depth 20) refl;
      };
      short = λ i l ne.
          let x = C.short i l (λ z. ne (PivotLists.none limits s h (e_Z i) z)) in
          let u = x.at in
          record {
            vector = _;
            spanned = record {
              parts = vector_modulo p prime u.parts u.pivot.parts;
              part = polynomial_modulo p prime u.part u.pivot.part;
              equal = λ k g. refl;
            };
            length = length (combination_of s u.parts u.part i);
            pivot = pivot_in limits s h u.pivot;
            short = omega (arith, x.short, long limits s h (ζ i) (e_Z i), long limits s h W ew);
          };
      lowest = λ c y e. denominator_lowest p prime w C.proper.certifying_denominator Z H.certifying_numerators C.lowest c y
          (λ i l. e i (omega (arith, C.count)));
    }

  module _ {d d₁ w w₁ : List ℕ} {N N₁ Z Z₁ : List (List ℕ)} (C : ChosenSolution s d N w Z) (C₁ : ChosenSolution s d₁ N₁ w₁ Z₁)
      (same : d ≡ d₁) where
    D_same : D C ≡ D C₁
    D_same = Vectors.list_injective p prime _ _ (sym (ed C) ∙ same ∙ ed C₁)

    numerators_same : (j : ℕ) → j < s.columns → ν C j ≡ ν C₁ j
    numerators_same = numerators_unique (sized F) s.rows s.columns T.matrix (ν C) (ν C₁)
        (λ i k. solves C i k ∙ ap (λ x. R.mul x (T.side i)) D_same ∙ sym (solves C₁ i k))
        (reduced C) (reduced C₁)

    certifying_same : (W C ≡ W C₁) × ((i : ℕ) → i < s.rows → ζ C i ≡ ζ C₁ i)
    certifying_same = certifying_unique (sized F) s.rows s.columns T.matrix T.side (certifying C)
        (subst (λ x. Certifying (sized F) s.rows s.columns T.matrix T.side x (W C₁) (ζ C₁)) (sym D_same)
        (certifying C₁))
        (monic_associates F (W C) (W C₁)
        (denominator_monic p prime w C.proper.certifying_denominator Z (H C).certifying_numerators C.lowest)
        (denominator_monic p prime w₁ C₁.proper.certifying_denominator Z₁ (H C₁).certifying_numerators C₁.lowest))

    solution_unique : solution d N w Z ≡ solution d₁ N₁ w₁ Z₁
    solution_unique =
        ap (λ x. solution x N w Z) same
        ∙ ap (λ x. solution d₁ x w Z) (same_lists s.columns N N₁ (ν C) (ν C₁) C.proper.count C₁.proper.count
        (λ j l. e_N C j) (λ j l. e_N C₁ j) numerators_same)
        ∙ ap (λ x. solution d₁ N₁ x Z) (ew C ∙ ap list certifying_same.0 ∙ sym (ew C₁))
        ∙ ap (solution d₁ N₁ w₁) (same_lists s.rows Z Z₁ (ζ C) (ζ C₁) C.count
        C₁.count (λ i l. e_Z C i) (λ i l. e_Z C₁ i) certifying_same.1)

  -- ---- absences

  module _ {q : List (List ℕ)} (C : ChosenAbsence s q) where
    abbrev κ : ℕ → Polynomial (residues s.modulus h.shape.prime)
    κ = vector_modulo s.modulus h.shape.prime q C.proper

    eq : (i : ℕ) → get_or q i [] ≡ list (κ i)
    eq = Vectors.vector_list p prime q C.proper

    killing : Killing (sized F) s.rows s.columns T.matrix T.side κ
    killing = record {
      kills = λ j l. PivotLists.none limits s h (column_is limits s h κ q (λ i l. eq i) j) (C.right.columns j l);
      at = C.at;
      vector = _;
      spanned = record {
        parts = vector_modulo p prime C.added.parts C.added.pivot.parts;
        part = polynomial_modulo p prime C.added.part C.added.pivot.part;
        equal = λ k g. refl;
      };
      length = length (combination_of s C.added.parts C.added.part C.at);
      pivot = pivot_in limits s h C.added.pivot;
      added = λ X. C.new (column_pivot_out limits s h X);
      support = λ i l ne nz. column_pivot_in limits s h (C.support i l ne (λ z. nz (PivotLists.none limits s h (eq i) z)));
      nonzero = denominator_nonzero p prime (get_or q C.at []) (canonical_at p q C.proper C.at) q C.proper C.lowest;
      lowest = λ c y e. denominator_lowest p prime (get_or q C.at []) (canonical_at p q C.proper C.at) q C.proper
          C.lowest c y (λ i l. e i (omega (arith, C.count)));
    }

    monic_at : MonicIn F (κ C.at)
    monic_at = denominator_monic p prime (get_or q C.at []) (canonical_at p q C.proper C.at) q C.proper C.lowest

  absence_unique : {q q₁ : List (List ℕ)} → ChosenAbsence s q → ChosenAbsence s q₁ → absence q ≡ absence q₁
  unfolding killing
  absence_unique {q} {q₁} C C₁ = ap absence (same_lists s.rows q q₁ (κ C) (κ C₁) C.count C₁.count
      (λ i l. eq C i) (λ i l. eq C₁ i)
      (killing_unique (sized F) s.rows s.columns T.matrix T.side K K₁ (λ x y.
      monic_associates F (κ C C.at) (κ C₁ C.at) (monic_at C)
      (subst (λ i. MonicIn F (κ C₁ i)) (sym at) (monic_at C₁)) x
      (subst (λ i. DividesIn R (κ C₁ i) (κ C i)) (sym at) y))))
    where
      K : Killing (sized F) s.rows s.columns T.matrix T.side (κ C)
      K = killing C

      K₁ : Killing (sized F) s.rows s.columns T.matrix T.side (κ C₁)
      K₁ = killing C₁

      at : C.at ≡ C₁.at
      at = killing_at (sized F) s.rows s.columns T.matrix T.side K K₁

  -- ---- of two certificates, whatever their kinds

  same_answer : (c c₁ : Certificate) → Chosen s c → Chosen s c₁ → answer_of c ≡ answer_of c₁ → c ≡ c₁
  unfolding Chosen answer_of
  same_answer (solution d N w Z) (solution d₁ N₁ w₁ Z₁) C C₁ e = solution_unique C C₁ (least_same e)
  same_answer (absence q) (absence q₁) C C₁ e = absence_unique C C₁
  same_answer (solution d N w Z) (absence q) C C₁ e = absurd (distinct d e)
  same_answer (absence q) (solution d N w Z) C C₁ e = absurd (distinct d (sym e))

  -- all that the solver gives is decided by the system; the limits are those that the system keeps, whichever these are
  pub chosen_unique : (c c₁ : Certificate) → Chosen s c → Chosen s c₁ → c ≡ c₁
  chosen_unique c c₁ C C₁ = same_answer c c₁ C C₁ (answer_unique s (proper limits s h) (answer_of c) (answer_of c₁)
      (chosen_answers s (proper limits s h) c C) (chosen_answers s (proper limits s h) c₁ C₁))
