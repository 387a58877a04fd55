-- Laws of fractions as values: whether a polynomial clears y, y's denominator, and whether y solves a system are the same however
-- y is written.
use Rattle.std.specs.Prelude.{ℕ, zero, suc, ◌<◌, ◌≡◌, refl, ◌↔◌, List, [], ◌∷◌, map, length}
use Rattle.std.proofs.Math.Path.{sym, ap, subst}
use Rattle.std.proofs.Common.{◌∙◌, arith}
use Rattle.std.proofs.Math.ListN.{get_or}
use Rattle.ring.specs.Ring.{Ring, mul_left_comm}
use Rattle.ring.specs.Sum.{sum_ext, sum_mul}
use Rattle.ring.specs.Identity.{quotes, identity}
use Rattle.ring.specs.Combination.{given, combination}
use Rattle.algebra.specs.Coefficients.{mul, quotient, one}
use Rattle.algebra.specs.Sized.{mul_cancel}
use Rattle.modular.specs.Prime.{Prime}
use Rattle.modular.specs.Modulo.{modulo}
use Rattle.modular.specs.Canonical.{Canonical}
use Rattle.modular.specs.Residue.{Residue}
use Rattle.modular.specs.Values.{NumberPolynomial, equal_numbers}
use Rattle.modular.specs.Arithmetic.{Arithmetic}
use Rattle.modular.specs.Carried.{number_arithmetic}
use Rattle.modular.specs.SizeLaws.{sized}
use Rattle.modular.specs.DivisionLaws.{division_laws}
use Rattle.modular.specs.Numbers.{numbers}
use Rattle.words.specs.System.{System}
use Rattle.truth.specs.Solution.{AllCanonical, RationalSolution, Clears, Denominator}
use Rattle.truth.specs.Lift.{Proper, canonical_at, ring_of, equations, vector, row_list, divides_list, divides_lift}
use Rattle.truth.specs.Witness
use Rattle.truth.specs.Fractions.{SameFractions, LeavesPolynomials}

length_map : (f : List ℕ → List ℕ) (M : List (List ℕ)) → length (map f M) ≡ length M
length_map f [] = refl
length_map f (m ∷ M) = ap suc (length_map f M)

get_d_map : (f : List ℕ → List ℕ) (M : List (List ℕ)) (j : ℕ) → j < length M → get_or (map f M) j [] ≡ f (get_or M j [])
get_d_map f [] j h = absurd (omega arith)
get_d_map f (m ∷ M) zero h = refl
get_d_map f (m ∷ M) (suc j) h = get_d_map f M j (omega arith)

canonical_map : (p : ℕ) (f : List ℕ → List ℕ) → ((m : List ℕ) → Canonical p m → Canonical p (f m)) → (M : List (List ℕ))
    → AllCanonical p M
    → AllCanonical p (map f M)
unfolding AllCanonical
canonical_map p f closed [] h = tt
canonical_map p f closed (m ∷ M) h = (closed m h.0, canonical_map p f closed M h.1)

pub same_sym : {p : ℕ} {M : List (List ℕ)} {e : List ℕ} {F : List (List ℕ)} {g : List ℕ} → SameFractions p M e F g
    → SameFractions p F g M e
same_sym q = record { count = sym q.count; entries = λ j k. sym (q.entries j (subst (λ n. j < n) (sym q.count) k)) }

module _ (p : ℕ) (prime : Prime p) where
  abbrev R : Ring (NumberPolynomial p)
  R = numbers p prime

  open R use {mul as ◌*◌, zero as 𝟘, one as 𝟙}

  infixl 70 ◌*◌
  abbrev S : Arithmetic (Residue p) (NumberPolynomial p)
  S = number_arithmetic p prime

  module _ (c : List ℕ) (hc : Canonical p c) (M : List (List ℕ)) (h_M : AllCanonical p M) (e : List ℕ) (he : Canonical p e) where
    abbrev C : NumberPolynomial p
    C = (c, hc)

    abbrev E : NumberPolynomial p
    E = (e, he)

    abbrev m : ℕ → NumberPolynomial p
    m = vector p M h_M

    -- the entries of c·y, where they are polynomials
    quotients : List (List ℕ)
    quotients = map (λ a. quotient (modulo p) (mul (modulo p) c a) e) M

    pub leaves_iff : LeavesPolynomials p c M e ↔ Clears p c M e
    unfolding Clears numbers one modulo quotients
    leaves_iff = (
      λ l j k. record {
        quotient = get_or l.0 j [];
        canonical = canonical_at p l.0 l.1 j;
        product = sym (ap (λ x. x.0) (R.mul_one (C * m j)))
            ∙ ap (λ f. mul (modulo p) f (1 ∷ [])) (sym (get_d_map (mul (modulo p) c) M j k))
            ∙ l.2.entries j (subst (λ n. j < n) (sym (length_map (mul (modulo p) c) M)) k);
      },
      λ h. (
        quotients,
        canonical_map p _ (λ a ha. (S.quotient (C * (a, ha)) E).1) M h_M,
        record {
          count = length_map (mul (modulo p) c) M ∙ sym (length_map _ M);
          entries = λ j k. let l = subst (λ n. j < n) (length_map (mul (modulo p) c) M) k in
              ap (λ f. mul (modulo p) f (1 ∷ [])) (get_d_map (mul (modulo p) c) M j l)
              ∙ ap (λ x. x.0) (R.mul_one (C * m j) ∙ (division_laws p prime).quotient_exact (C * m j) E
              (divides_lift p prime E (C * m j) (h j l)))
              ∙ ap (λ f. mul (modulo p) f e) (sym (get_d_map (λ a. quotient (modulo p) (mul (modulo p) c a) e) M j l));
        },
      ),
    )

  module _ (M : List (List ℕ)) (h_M : AllCanonical p M) (e : List ℕ) (he : Canonical p e) (nonzero : ¬ (e ≡ []))
      (F : List (List ℕ)) (h_F : AllCanonical p F) (g : List ℕ) (hg : Canonical p g) (same : SameFractions p M e F g) where
    -- e divides c·m, c·m = k·e, and m·g = f·e: so c·f = k·g
    pub same_clears : (c : List ℕ) → Canonical p c → Clears p c M e → Clears p c F g
    unfolding Clears numbers
    same_clears c hc h j k =
        let l = subst (λ n. j < n) (sym same.count) k in
        let C : NumberPolynomial p = (c, hc) in
        let E : NumberPolynomial p = (e, he) in
        let G : NumberPolynomial p = (g, hg) in
        let m : NumberPolynomial p = vector p M h_M j in
        let f : NumberPolynomial p = vector p F h_F j in
        let v = divides_lift p prime E (C * m) (h j l) in
        let q : m * G ≡ f * E = equal_numbers p (m * G) (f * E) (same.entries j l) in
        divides_list p prime {d = G} {f = C * f} (record {
          cofactor = v.cofactor;
          product = mul_cancel (sized p prime) E (C * f) (v.cofactor * G) (λ z. nonzero (ap (λ x. x.0) z))
              (combination R (E * (C * f)) (E * (v.cofactor * G)) (given (R.neg C) q ∷ given G v.product ∷ [])
              (identity R (E ∷ C ∷ f ∷ v.cofactor ∷ G ∷ m ∷ []) (λ ρ q_E q_C qf qv q_G qm. search quotes depth 20) refl));
        })

  -- the same vector has the same denominator
  pub same_denominator : (M : List (List ℕ)) (h_M : AllCanonical p M) (e : List ℕ) (he : Canonical p e) (e_nonzero : ¬ (e ≡ []))
      (F : List (List ℕ)) (h_F : AllCanonical p F) (g : List ℕ) (hg : Canonical p g) (g_nonzero : ¬ (g ≡ []))
      → SameFractions p M e F g → (c : List ℕ) → Denominator p M e c → Denominator p F g c
  same_denominator M h_M e he e_nonzero F h_F g hg g_nonzero same c D = record {
    canonical = D.canonical;
    monic = D.monic;
    clears = same_clears M h_M e he e_nonzero F h_F g hg same c D.canonical D.clears;
    least = λ f hf monic clears. D.least f hf monic (same_clears F h_F g hg g_nonzero M h_M e he (same_sym same) f hf clears);
  }

-- and is a solution or is none: e·(A·F) = A·(M·g) = g·(A·M) = g·e·b
module _ (s : System) (h : Proper s) (M : List (List ℕ)) (e : List ℕ) (X : RationalSolution s M e)
    (F : List (List ℕ)) (h_F : AllCanonical s.modulus F) (g : List ℕ) (hg : Canonical s.modulus g) (nonzero : ¬ (g ≡ []))
    (same : SameFractions s.modulus M e F g) where
  abbrev p : ℕ
  p = s.modulus

  abbrev K : Ring (NumberPolynomial s.modulus)
  K = ring_of s h

  open K use {mul as ◌·◌}

  infixl 70 ◌·◌
  abbrev e' : NumberPolynomial s.modulus
  e' = (e, X.divisor)

  abbrev g' : NumberPolynomial s.modulus
  g' = (g, hg)

  abbrev M' : ℕ → NumberPolynomial s.modulus
  M' = vector s.modulus M X.numerators

  abbrev F' : ℕ → NumberPolynomial s.modulus
  F' = vector s.modulus F h_F

  abbrev A' : ℕ → ℕ → NumberPolynomial s.modulus
  A' = (equations s h).entry

  crossed : (j : ℕ) → j < s.columns → M' j · g' ≡ F' j · e'
  unfolding numbers
  crossed j k = equal_numbers p (M' j · g') (F' j · e') (same.entries j (subst (λ n. j < n) (sym X.count) k))

  row_of : (i : ℕ) → i < s.rows → Witness.row_of K (equations s h) F' i ≡ g' · (equations s h).side i
  unfolding numbers
  row_of i k = mul_cancel (sized p h.prime) e' (Witness.row_of K (equations s h) F' i) (g' · (equations s h).side i)
      (λ z. X.nonzero (ap (λ x. x.0) z))
      (sym (sum_mul K s.columns e' (λ j. A' i j · F' j))
      ∙ sum_ext K s.columns (λ j. e' · (A' i j · F' j)) (λ j. g' · (A' i j · M' j))
      (λ j l. combination K (e' · (A' i j · F' j)) (g' · (A' i j · M' j)) (given (K.neg (A' i j)) (crossed j l) ∷ [])
      (identity K (e' ∷ A' i j ∷ F' j ∷ g' ∷ M' j ∷ []) (λ ρ qe qa qf qg qm. search quotes depth 20) refl))
      ∙ sum_mul K s.columns g' (λ j. A' i j · M' j)
      ∙ ap (λ x. g' · x) (equal_numbers p (Witness.row_of K (equations s h) M' i) (e' · (equations s h).side i)
      (row_list s h M X.numerators i ∙ X.rows i k))
      ∙ mul_left_comm K g' e' ((equations s h).side i))

  pub same_solution : RationalSolution s F g
  unfolding numbers
  same_solution = record {
    numerators = h_F;
    count = sym same.count ∙ X.count;
    divisor = hg;
    nonzero = nonzero;
    rows = λ i k. sym (row_list s h F h_F i) ∙ ap (λ x. x.0) (row_of i k);
  }
