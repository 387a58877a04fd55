-- certificate-exists in document 01's values: every system within limits has a right certificate within them, the chosen one, where
-- the limit on certificates leaves room for it; the office's does, "degree 120 always suffices". There is only one such
-- certificate, whatever the limits, so it is a function of the system.
use Rattle.std.specs.Prelude.{ℕ, ◌*◌, ◌<◌, ◌≤◌, min, ◌≡◌, List}
use Rattle.std.proofs.Math.Path.{refl}
use Rattle.std.proofs.Common.{⊎_elim, arith, le_refl, mul-le-mul_right}
use Rattle.algebra.specs.Polynomial.{Polynomial}
use Rattle.algebra.specs.Size.{size, sized}
use Rattle.modular.specs.Prime.{Prime}
use Rattle.modular.specs.Residue.{residues}
use Rattle.reduction.specs.System.{LinearSystem}
use Rattle.reduction.specs.Euclidean.{Euclidean}
use Rattle.reduction.specs.Polynomials.{euclidean}
use Rattle.reduction.specs.Certificate.{small_solution_le, small_absence_le}
use Rattle.reduction.specs.Existence.{Solved, Unsolvable, certificate_within}
use Rattle.words.specs.Limits.{Limits, office, panel}
use Rattle.words.specs.Polynomial.{Within, VectorWithin}
use Rattle.words.specs.System.{System, SystemWithin, shape}
use Rattle.words.specs.Certificate.{Certificate, CertificateWithin}
use Rattle.words.specs.Certificate.Certificate.{solution, absence}
use Rattle.truth.specs.Solution.{Answer, Answers, RationalSolution, LeastDenominator}
use Rattle.truth.specs.Right.{Right}
use Rattle.truth.proofs.Truth.{answer_unique}
use Rattle.truth.proofs.Accepted.{proper}
use Rattle.truth.specs.Listed.{length_listed}
use Rattle.truth.specs.Chosen.{Chosen, chosen_right}
use Rattle.solve_meaning.specs.Listed.{vector_listed}
use Rattle.solve_meaning.specs.Lists.{list_of, list_canonical, list_length}
use Rattle.solve_meaning.specs.Equations.{system_degree, equated}
use Rattle.solve_meaning.specs.Vectors.{lists, lists_at}
use Rattle.solve_meaning.specs.ChosenLists.{solution_chosen, absence_chosen}
use Rattle.solve_meaning.specs.Answers.{answer_of, chosen_answers}
use Rattle.solve_meaning.specs.ChosenUnique.{chosen_unique}

-- polynomials of bounded size as lists
module _ (p : ℕ) (prime : Prime p) where
  list_within : {limit : ℕ} (x : Polynomial (residues p prime)) → size (residues p prime) x ≤ limit
      → Within p limit (list_of p prime x)
  list_within x h = record { canonical = list_canonical p prime x; size = omega (arith, list_length p prime x) }

  lists_within : {limit : ℕ} (n : ℕ) (x : ℕ → Polynomial (residues p prime))
      → ((i : ℕ) → i < n → size (residues p prime) (x i) ≤ limit) → VectorWithin p limit n (lists p prime n x)
  lists_within {limit} n x h = vector_listed p limit n (λ i. list_of p prime (x i)) (λ i k. list_within (x i) (h i k))

-- "numerators of degree at most 15 × r": r is at most the least of rows and columns, 15 the degree of a system's polynomials
abbrev pub Suffices : Limits → ℕ → ℕ → Type 0
Suffices limits rows columns = min rows columns * system_degree limits < limits.certificate_coefficients

-- the chosen certificate, within the limits
pub record ChosenCertificate (limits : Limits) (s : System) : Type 0 where
  pub certificate : Certificate
  pub within : CertificateWithin limits (shape s) certificate
  pub chosen : Chosen s certificate

-- a certificate whose kind and d answer the system: an absence where there is no solution, and a solution with the least
-- denominator where there is one
absence_of : (s : System) (c : Certificate) → Answers s (answer_of c) → ((M : List (List ℕ)) (e : List ℕ) → ¬ RationalSolution s M e)
    → (q : List (List ℕ)) × (c ≡ absence q)
unfolding Answers answer_of
absence_of s (solution d N w Z) A without = absurd (without A.numerators A.over A.solution)
absence_of s (absence q) A without = (q, refl)

solution_of : (s : System) (c : Certificate) → Answers s (answer_of c) → {M : List (List ℕ)} {e : List ℕ} → RationalSolution s M e
    → (d : List ℕ) × (N : List (List ℕ)) × (w : List ℕ) × (Z : List (List ℕ)) × (c ≡ solution d N w Z) × LeastDenominator s d
unfolding Answers answer_of
solution_of s (solution d N w Z) A X = (d, N, w, Z, refl, A)
solution_of s (absence q) A {M} {e} X = absurd (A M e X)

module _ (limits : Limits) (s : System) (h : SystemWithin limits s) where
  abbrev p : ℕ
  p = s.modulus

  abbrev prime : Prime s.modulus
  prime = h.shape.prime

  abbrev T : LinearSystem (sized (residues s.modulus h.shape.prime))
  T = equated limits s h

  abbrev E : Euclidean (sized (residues s.modulus h.shape.prime))
  E = euclidean (residues s.modulus h.shape.prime)

  module _ {B : ℕ} (le : B ≤ limits.certificate_coefficients) where
    solved : Solved E T B → ChosenCertificate limits s
    unfolding CertificateWithin Chosen
    solved C =
        let small = small_solution_le E T le C.small in
        record {
          certificate =
              solution (list_of p prime C.d) (lists p prime s.columns C.N)
              (list_of p prime C.w) (lists p prime s.rows C.Z);
          within = record {
            denominator = list_within p prime C.d small.denominator;
            numerators = lists_within p prime s.columns C.N small.numerators;
            certifying_denominator = list_within p prime C.w small.certifying_denominator_lem;
            certifying_numerators = lists_within p prime s.rows C.Z small.certifying_numerators_lem;
          };
          chosen = solution_chosen limits s h C.d C.w C.N C.Z _ _ _ _ refl refl
              (length_listed s.columns (λ j. list_of p prime (C.N j))) (lists_at p prime s.columns C.N)
              (length_listed s.rows (λ i. list_of p prime (C.Z i))) (lists_at p prime s.rows C.Z)
              C.certifying C.right C.reduced;
        }

    unsolvable : Unsolvable E T B → ChosenCertificate limits s
    unfolding CertificateWithin Chosen
    unsolvable C = record {
      certificate = absence (lists p prime s.rows C.q);
      within = lists_within p prime s.rows C.q (small_absence_le E T le {q = C.q} C.small);
      chosen = absence_chosen limits s h _ (length_listed s.rows (λ i. list_of p prime (C.q i)))
          (lists_at p prime s.rows C.q)
          C.right C.killing C.monic;
    }

  pub certificate_exists : Suffices limits s.rows s.columns → ChosenCertificate limits s
  certificate_exists room = ⊎_elim (solved (omega arith)) (unsolvable (omega arith))
      (certificate_within E T (min s.rows s.columns * system_degree limits) (le_refl _))

  min_within : min s.rows s.columns ≤ min limits.rows limits.columns
  min_within = omega (arith, h.shape.rows.1, h.shape.columns.1)

  -- room for the greatest systems is room for all
  pub suffices_all : Suffices limits limits.rows limits.columns → Suffices limits s.rows s.columns
  suffices_all room = omega (arith, mul-le-mul_right (system_degree limits) min_within)

  -- so there is an answer, and one only (`answer-unique`): wherever there is a solution, there is a least denominator
  pub answer_exists : Suffices limits s.rows s.columns → (a : Answer) × Answers s a
  answer_exists room =
      let R = certificate_exists room in
      (answer_of R.certificate, chosen_answers s (proper limits s h) R.certificate R.chosen)

  -- ---- the certificate of a system

  pub chosen_certificate : Suffices limits s.rows s.columns → Certificate
  chosen_certificate room = (certificate_exists room).certificate

  module _ (room : Suffices limits s.rows s.columns) where
    pub chosen_certificate_chosen : Chosen s (chosen_certificate room)
    unfolding chosen_certificate
    chosen_certificate_chosen = (certificate_exists room).chosen

    pub chosen_certificate_within : CertificateWithin limits (shape s) (chosen_certificate room)
    unfolding chosen_certificate
    chosen_certificate_within = (certificate_exists room).within

    pub chosen_certificate_right : Right s (chosen_certificate room)
    chosen_certificate_right = chosen_right s (chosen_certificate room) chosen_certificate_chosen

    pub chosen_certificate_answers : Answers s (answer_of (chosen_certificate room))
    chosen_certificate_answers = chosen_answers s (proper limits s h) (chosen_certificate room) chosen_certificate_chosen

    -- no other is chosen
    pub chosen_only : (c : Certificate) → Chosen s c → c ≡ chosen_certificate room
    chosen_only c C = chosen_unique limits s h c (chosen_certificate room) C chosen_certificate_chosen

    -- kind and d are the answer to the system
    pub chosen_certificate_answer : (a : Answer) → Answers s a → answer_of (chosen_certificate room) ≡ a
    chosen_certificate_answer a A =
        answer_unique s (proper limits s h) (answer_of (chosen_certificate room)) a chosen_certificate_answers A

    -- by name
    pub chosen_certificate_absence : ((M : List (List ℕ)) (e : List ℕ) → ¬ RationalSolution s M e)
        → (q : List (List ℕ)) × (chosen_certificate room ≡ absence q)
    chosen_certificate_absence = absence_of s (chosen_certificate room) chosen_certificate_answers

    pub chosen_certificate_solution : {M : List (List ℕ)} {e : List ℕ} → RationalSolution s M e
        → (d : List ℕ) × (N : List (List ℕ)) × (w : List ℕ) × (Z : List (List ℕ)) × (chosen_certificate room ≡ solution d N w Z)
        × LeastDenominator s d
    chosen_certificate_solution = solution_of s (chosen_certificate room) chosen_certificate_answers

-- it depends neither on the limits nor on the proofs that they are kept
pub chosen_certificate_same : (limits limits₁ : Limits) (s : System) (h : SystemWithin limits s) (h₁ : SystemWithin limits₁ s)
    (room : Suffices limits s.rows s.columns) (room₁ : Suffices limits₁ s.rows s.columns)
    → chosen_certificate limits s h room ≡ chosen_certificate limits₁ s h₁ room₁
chosen_certificate_same limits limits₁ s h h₁ room room₁ =
    chosen_only limits₁ s h₁ room₁ (chosen_certificate limits s h room) (chosen_certificate_chosen limits s h room)

-- ---- "Degree 120 always suffices", and degree 28 on the panel

pub office_suffices : (s : System) → SystemWithin office s → Suffices office s.rows s.columns
office_suffices s h = suffices_all office s h (omega arith)

pub panel_suffices : (s : System) → SystemWithin panel s → Suffices panel s.rows s.columns
panel_suffices s h = suffices_all panel s h (omega arith)

pub office_certificate_exists : (s : System) → SystemWithin office s → ChosenCertificate office s
office_certificate_exists s h = certificate_exists office s h (office_suffices s h)

pub office_answer_exists : (s : System) → SystemWithin office s → (a : Answer) × Answers s a
office_answer_exists s h = answer_exists office s h (office_suffices s h)

pub panel_certificate_exists : (s : System) → SystemWithin panel s → ChosenCertificate panel s
panel_certificate_exists s h = certificate_exists panel s h (panel_suffices s h)

-- the certificates as functions of the system; where both limits are kept, they are the same
abbrev pub office_certificate : (s : System) → SystemWithin office s → Certificate
office_certificate s h = chosen_certificate office s h (office_suffices s h)

abbrev pub panel_certificate : (s : System) → SystemWithin panel s → Certificate
panel_certificate s h = chosen_certificate panel s h (panel_suffices s h)

pub panel_office_same : (s : System) (h : SystemWithin panel s) (k : SystemWithin office s)
    → panel_certificate s h ≡ office_certificate s k
panel_office_same s h k = chosen_certificate_same panel office s h k (panel_suffices s h) (office_suffices s k)
