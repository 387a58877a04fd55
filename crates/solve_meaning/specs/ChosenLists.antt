-- The lists of a certificate that is chosen in the terms of the solver's mathematics, over the residues, are chosen.
use Rattle.std.specs.Prelude.{ℕ, ◌<◌, ◌≡◌, refl, List, [], ◌∷◌}
use Rattle.std.proofs.Math.Path.{sym, ap, ap₂}
use Rattle.std.proofs.Common.{◌∙◌}
use native.Mathlib.Omega.{arith}
use Rattle.std.proofs.Math.Decide.{dec_lt}
use Rattle.std.proofs.Math.ListN.{length, get_or}
use Rattle.ring.specs.Ring.{Ring}
use Rattle.ring.specs.Sum.{sum}
use Rattle.ring.specs.Identity.{quotes, identity}
use Rattle.ring.specs.Combination.{given, combination}
use Rattle.algebra.specs.Field.{Field}
use Rattle.algebra.specs.Coefficients
use Rattle.algebra.specs.Polynomial.{Polynomial, polynomials}
use Rattle.algebra.specs.Size.{sized}
use Rattle.algebra.specs.Divides.{Divides as DividesIn, divides_size}
use Rattle.algebra.specs.Monic.{Monic as MonicIn}
use Rattle.modular.specs.Prime.{Prime}
use Rattle.modular.specs.Modulo.{modulo}
use Rattle.modular.specs.Canonical.{Canonical}
use Rattle.modular.specs.MonicLaws.{monic_laws}
use Rattle.modular.specs.Numbers.{numbers}
use Rattle.modular.specs.Residue.{Residue, residues}
use Rattle.modular.specs.Values.{equal_numbers}
use Rattle.reduction.specs.System.{LinearSystem}
use Rattle.reduction.specs.Polynomials.{euclidean}
use Rattle.reduction.specs.Certificate.{RightSolutionIn, RightAbsenceIn}
use Rattle.reduction.specs.Numerators.{ReducedNumerators}
use Rattle.reduction.specs.Certifying.{Certifying}
use Rattle.reduction.specs.Killing.{Killing}
use Rattle.words.specs.Limits.{Limits}
use Rattle.words.specs.System.{System, SystemWithin}
use Rattle.truth.specs.Solution.{Clears, Monic, Denominator}
use Rattle.truth.specs.Chosen.{ReducedModuloRelations, Inverts, ShortEntry, ChosenSolution, ChosenAbsence}
use Rattle.solve_meaning.specs.Lists
use Rattle.solve_meaning.specs.Lists.{list_of}
use Rattle.solve_meaning.specs.Vectors
use Rattle.solve_meaning.specs.Vectors.{lists, polynomial_modulo, vector_modulo}
use Rattle.solve_meaning.specs.Equations.{equated}
use Rattle.solve_meaning.specs.RightLists.{side_is, solution_right, absence_right}
use Rattle.solve_meaning.specs.PivotLists.{long, empty, relation_in, pivot_out, pivot_length, column_pivot_in}
use Rattle.solve_meaning.specs.PivotLists.{column_pivot_out}

-- Z/w in lowest terms, for n polynomials Z: w is the denominator
module _ (p : ℕ) (prime : Prime p) (n : ℕ) (W : Polynomial (residues p prime)) (ζ : ℕ → Polynomial (residues p prime)) (w : List ℕ)
    (Z : List (List ℕ)) (ew : w ≡ list_of p prime W) (count : length Z ≡ n)
    (e_Z : (i : ℕ) → i < n → get_or Z i [] ≡ list_of p prime (ζ i)) where
  abbrev F : Field (Residue p)
  F = residues p prime

  abbrev R : Ring (Polynomial (residues p prime))
  R = polynomials (residues p prime)

  abbrev list : Polynomial (residues p prime) → List ℕ
  list = list_of p prime

  -- c·Z is divisible by w as lists
  cleared : (c : List ℕ) (hc : Canonical p c) → Clears p c Z w → (i : ℕ) → i < n
      → DividesIn R W (R.mul (polynomial_modulo p prime c hc) (ζ i))
  unfolding Clears
  cleared c hc h i l = Vectors.polynomial_divides p prime W (R.mul (polynomial_modulo p prime c hc) (ζ i)) w _ ew
      (ap₂ (Coefficients.mul (modulo p)) (Vectors.polynomial_list p prime c hc) (e_Z i l)
      ∙ sym (Lists.list_mul p prime (polynomial_modulo p prime c hc) (ζ i)))
      (h i (omega arith))

  module _ (lowest : (c : Polynomial (residues p prime)) (y : ℕ → Polynomial (residues p prime))
      → ((i : ℕ) → i < n → R.mul c (ζ i) ≡ R.mul (y i) W) → DividesIn R W c) where
    least : (c : List ℕ) (hc : Canonical p c) → Clears p c Z w → DividesIn R W (polynomial_modulo p prime c hc)
    least c hc h = lowest (polynomial_modulo p prime c hc) (λ i. quotient i (dec_lt i n)) (λ i l. exact i (dec_lt i n) l)
      where
        quotient : (i : ℕ) → Dec (i < n) → Polynomial (residues p prime)
        quotient i (yes l) = (cleared c hc h i l).cofactor
        quotient i (no l) = R.zero

        exact : (i : ℕ) (t : Dec (i < n)) → i < n → R.mul (polynomial_modulo p prime c hc) (ζ i) ≡ R.mul (quotient i t) W
        exact i (yes l) k = (cleared c hc h i l).product
        exact i (no l) k = absurd (l k)

    pub denominator_lists : MonicIn F W → Denominator p Z w w
    unfolding Clears Monic numbers
    denominator_lists monic = record {
      canonical = rw ew (Lists.list_canonical p prime W);
      monic = rw ew (Lists.list_is_monic p prime W monic);
      clears = λ i l.
          let k : i < n = omega arith in
          record {
            quotient = get_or Z i [];
            canonical = rw (e_Z i k) (Lists.list_canonical p prime (ζ i));
            product = ap₂ (Coefficients.mul (modulo p)) ew (e_Z i k) ∙ sym (Lists.list_mul p prime W (ζ i))
                ∙ ap list (R.mul_comm W (ζ i))
                ∙ Lists.list_mul p prime (ζ i) W ∙ sym (ap₂ (Coefficients.mul (modulo p)) (e_Z i k) ew);
          };
      least = λ c hc m h.
          let C = polynomial_modulo p prime c hc in
          let nonzero : ¬ (C ≡ R.zero) = λ z. (monic_laws p prime).monic_nonzero (c, hc) m
          (equal_numbers p _ _ (Vectors.polynomial_list p prime c hc ∙ ap list z ∙ Lists.list_zero p prime)) in
          omega (
            arith,
            divides_size (sized F) (least c hc h) nonzero,
            ap length ew,
            Lists.list_length p prime W,
            ap length (Vectors.polynomial_list p prime c hc),
            Lists.list_length p prime C,
          );
    }

module _ (limits : Limits) (s : System) (h : SystemWithin limits s) where
  abbrev p : ℕ
  p = s.modulus

  abbrev prime : Prime s.modulus
  prime = h.shape.prime

  abbrev Q : Type 0
  Q = Polynomial (residues s.modulus h.shape.prime)

  abbrev S : Ring (Polynomial (residues s.modulus h.shape.prime))
  S = polynomials (residues s.modulus h.shape.prime)

  abbrev T : LinearSystem (sized (residues s.modulus h.shape.prime))
  T = equated limits s h

  abbrev listed : Q → List ℕ
  listed = list_of s.modulus h.shape.prime

  module _ (D W : Polynomial (residues s.modulus h.shape.prime)) (ν ζ : ℕ
      → Polynomial (residues s.modulus h.shape.prime))
      (d w : List ℕ) (N Z : List (List ℕ)) (ed : d ≡ listed D) (ew : w ≡ listed W)
      (count_N : length N ≡ s.columns) (e_N : (j : ℕ) → j < s.columns → get_or N j [] ≡ listed (ν j)) (count : length Z ≡ s.rows)
      (e_Z : (i : ℕ) → i < s.rows → get_or Z i [] ≡ listed (ζ i)) where
    reduced_lists : ReducedNumerators (sized (residues p prime)) s.rows s.columns T.matrix ν → ReducedModuloRelations s N
    reduced_lists r j l v X =
        let x = vector_modulo p prime v X.canonical in
        let e = Vectors.vector_list p prime v X.canonical j in
        omega (
          arith,
          r j l x (relation_in limits s h X) (λ z. X.nonzero (empty limits s h e z)),
          long limits s h (ν j) (e_N j l),
          long limits s h (x j) e,
        )

    module _ (K : Certifying (sized (residues s.modulus h.shape.prime)) s.rows s.columns T.matrix T.side D W ζ)
      where
        side : Q
        side = sum S s.rows (λ i. S.mul (ζ i) (T.side i))

        t : Q
        t = K.side.cofactor

        inverts_in : S.mul D side ≡ S.add W (S.mul t (S.mul D W))
        unfolding side t
        inverts_in = combination S (S.mul D side) (S.add W (S.mul t (S.mul D W)))
            (given D K.side.product ∷ given (S.neg S.one) K.quotient ∷ [])
            (identity S (D ∷ W ∷ side ∷ t ∷ K.cofactor ∷ []) (λ ρ q1 q2 q3 q4 q5. search quotes depth 20) refl)

        inverts_lists : Inverts s d w Z
        unfolding side
        inverts_lists = record {
          whole = listed t;
          canonical = Lists.list_canonical p prime t;
          equal =
              ap₂ (Coefficients.mul (modulo p)) ed (side_is limits s h ζ Z e_Z)
              ∙ sym (Lists.list_mul p prime D side)
              ∙ ap listed inverts_in
              ∙ Lists.list_add p prime W (S.mul t (S.mul D W))
              ∙ ap₂ (Coefficients.add (modulo p)) (sym ew)
              (Lists.list_mul p prime t (S.mul D W)
              ∙ ap (Coefficients.mul (modulo p) (listed t))
              (Lists.list_mul p prime D W ∙ sym (ap₂ (Coefficients.mul (modulo p)) ed ew)));
        }

        short_lists : (i : ℕ) → i < s.rows → ¬ (get_or Z i [] ≡ []) → ShortEntry s w Z i
        short_lists i l ne =
            let x = K.short i l (λ z. ne (empty limits s h (e_Z i l) z)) in
            let u = x.spanned in
            record {
              at = record {
                parts = lists p prime s.columns u.parts;
                part = listed u.part;
                pivot = pivot_out limits s h u.parts u.part u.equal x.pivot (listed u.part) refl;
              };
              short = omega (
                arith,
                pivot_length limits s h u.parts u.part u.equal x.pivot (listed u.part) refl,
                x.short,
                long limits s h (ζ i) (e_Z i l),
                long limits s h W ew,
              );
            }

        pub solution_chosen : RightSolutionIn (euclidean (residues p prime)) T D ν W ζ
            → ReducedNumerators (sized (residues p prime)) s.rows s.columns T.matrix ν → ChosenSolution s d N w Z
        solution_chosen C r = record {
          proper = record {
            denominator = rw ed (Lists.list_canonical p prime D);
            numerators = Vectors.all_canonical_lists p prime s.columns ν N count_N e_N;
            count = count_N;
            certifying_denominator = rw ew (Lists.list_canonical p prime W);
            certifying_numerators = Vectors.all_canonical_lists p prime s.rows ζ Z count e_Z;
          };
          count = count;
          right = solution_right limits s h C d w N Z ed ew e_N e_Z;
          reduced = reduced_lists r;
          inverts = inverts_lists;
          short = short_lists;
          lowest = denominator_lists p prime s.rows W ζ w Z ew count e_Z K.lowest C.certifying_monic_lem;
        }

  pub absence_chosen : {κ : ℕ → Polynomial (residues s.modulus h.shape.prime)} (q : List (List ℕ)) → length q ≡ s.rows
      → ((i : ℕ) → i < s.rows → get_or q i [] ≡ listed (κ i))
      → RightAbsenceIn (euclidean (residues s.modulus h.shape.prime)) T κ
      → (K : Killing (sized (residues s.modulus h.shape.prime)) s.rows s.columns T.matrix T.side κ)
      → MonicIn (residues s.modulus h.shape.prime) (κ K.at) → ChosenAbsence s q
  absence_chosen {κ} q count eq C K monic = record {
    proper = Vectors.all_canonical_lists p prime s.rows κ q count eq;
    count = count;
    right = absence_right limits s h C q eq;
    at = K.at;
    added = record {
      parts = lists p prime s.columns K.spanned.parts;
      part = listed K.spanned.part;
      pivot = pivot_out limits s h K.spanned.parts K.spanned.part K.spanned.equal K.pivot
          (listed K.spanned.part) refl;
    };
    new = λ P. K.added (column_pivot_in limits s h P);
    support = λ i l ne nz. column_pivot_out limits s h (K.support i l ne (λ z. nz (empty limits s h (eq i l) z)));
    lowest = denominator_lists p prime s.rows (κ K.at) κ (get_or q K.at []) q (eq K.at K.pivot.inside) count eq
        K.lowest monic;
  }
