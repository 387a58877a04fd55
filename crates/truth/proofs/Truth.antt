-- Demand 3's truth, of the definitions, for every prime, every number of rows and columns and every degree: a right solution
-- certificate gives the least denominator, with a right absence certificate there is no solution, and no system has both.
use Prim.Native.Nat.{ℕ, ◌<◌}
use Rattle.std.specs.Prelude.{◌≡◌}
use Rattle.std.proofs.Math.Path.{refl, sym, ap}
use Rattle.std.proofs.Common.{◌∙◌, subst, arith}
use mathlib.Core.List.{List, [], ◌∷◌}
use Rattle.std.proofs.Math.ListN.{get_or}
use Rattle.ring.specs.Ring.{Ring}
use Rattle.ring.specs.Identity.{quotes, identity}
use Rattle.ring.specs.Combination.{given, combination}
use Rattle.algebra.specs.Coefficients.{monic, quotient, gcd}
use Rattle.algebra.specs.Sized.{Sized, Cancels, cancel_mul, mul_cancel}
use Rattle.algebra.specs.Divides.{Divides as DividesIn, divides_size}
use Rattle.algebra.specs.Bezout.{Greatest}
use Rattle.modular.specs.Modulo.{modulo}
use Rattle.modular.specs.Canonical.{Canonical}
use Rattle.modular.specs.Residue.{Residue}
use Rattle.modular.specs.Values.{NumberPolynomial, equal_numbers}
use Rattle.modular.specs.Arithmetic.{Arithmetic}
use Rattle.modular.specs.Carried.{number_arithmetic}
use Rattle.modular.specs.SizeLaws.{sized}
use Rattle.modular.specs.DivisionLaws.{division_laws}
use Rattle.modular.specs.MonicLaws.{monic_laws}
use Rattle.modular.specs.GcdLaws.{gcd_laws}
use Rattle.modular.specs.Numbers.{numbers}
use Rattle.words.specs.System.{System}
use Rattle.truth.specs.Solution.{AllCanonical, RationalSolution, DividesModulo, Clears, Monic}
use Rattle.truth.specs.Solution.{Denominator, LeastDenominator, Answer, Answers}
use Rattle.truth.specs.Solution.Answer.{none, least}
use Rattle.truth.specs.Right.{RightSolution, RightAbsence, certified}
use Rattle.truth.specs.Lift.{Proper, canonical_at, ring_of, equations, vector, row_list, column_list, side_list, divides_list}
use Rattle.truth.specs.Lift.{divides_lift}
use Rattle.truth.specs.Witness.{Bounds, SolvesEquations, bounds_clearing, excludes}
use Rattle.truth.specs.Witness
use Rattle.truth.specs.ProperSolution.{ProperSolution}

module _ (s : System) (h : Proper s) where
  abbrev p : ℕ
  p = s.modulus

  abbrev R : Ring (NumberPolynomial s.modulus)
  R = ring_of s h

  open R use {add as ◌+◌, mul as ◌*◌, neg as -◌, zero as 𝟘, one as 𝟙}

  infixl 65 ◌+◌
  infixl 70 ◌*◌
  infix 75 -◌
  abbrev S : Arithmetic (Residue s.modulus) (NumberPolynomial s.modulus)
  S = number_arithmetic s.modulus h.prime

  abbrev Z/p : Sized (ring_of s h)
  Z/p = sized s.modulus h.prime

  cancels : Cancels (ring_of s h)
  cancels = cancel_mul Z/p

  -- a rational solution solves the equations over the ring
  pub solves : (M : List (List ℕ)) (e : List ℕ) (X : RationalSolution s M e)
      → SolvesEquations R (equations s h) (vector p M X.numerators) (e, X.divisor)
  unfolding numbers
  solves M e X = record {
    nonzero = λ z. X.nonzero (ap (λ x. x.0) z);
    rows = λ i k. equal_numbers p _ _ (row_list s h M X.numerators i ∙ X.rows i k);
  }

  module _ {d : List ℕ} {N : List (List ℕ)} {w : List ℕ} {Z : List (List ℕ)} (P : ProperSolution s d N w Z)
      (C : RightSolution s d N w Z) where
    abbrev D : NumberPolynomial s.modulus
    D = (d, P.denominator)

    abbrev W : NumberPolynomial s.modulus
    W = (w, P.certifying_denominator)

    abbrev z : ℕ → NumberPolynomial s.modulus
    z = vector s.modulus Z P.certifying_numerators

    abbrev B : NumberPolynomial s.modulus
    B = Witness.side_of (ring_of s h) (equations s h) z

    abbrev G : NumberPolynomial s.modulus
    G = S.gcd W B

    abbrev Q : NumberPolynomial s.modulus
    Q = S.quotient W G

    -- the gcd's laws at w and Z·b
    common : Greatest (ring_of s h) W B G
    common = (gcd_laws s.modulus h.prime).gcd_common W B

    G_monic : S.Monic G
    unfolding Monic
    G_monic = (gcd_laws p h.prime).gcd_monic W B (omega (arith, (monic_laws p h.prime).monic_positive W C.certifying_monic))

    W_is : W ≡ Q * G
    W_is = (division_laws p h.prime).quotient_exact W G common.left

    Q_monic : S.Monic Q
    unfolding Monic
    Q_monic = (monic_laws p h.prime).monic_cofactor G Q G_monic (subst S.Monic (W_is ∙ R.mul_comm Q G) C.certifying_monic)

    -- the quotient is monic already, so that it is d
    Q_is : Q ≡ D
    unfolding certified
    Q_is = sym ((monic_laws p h.prime).monic_same Q Q_monic)
        ∙ equal_numbers p (S.monic Q) D (ap certified_by (side_list s h Z P.certifying_numerators) ∙ C.denominators)
      where
        certified_by : List ℕ → List ℕ
        certified_by f = monic (modulo p) (quotient (modulo p) w (gcd (modulo p) w f))

    cofactor : NumberPolynomial s.modulus
    cofactor = common.right.cofactor

    -- d and (Z·b) / g are coprime: g is a combination of w = d·g and Z·b
    coprime : common.s * D + common.t * cofactor ≡ 𝟙
    unfolding cofactor
    coprime = mul_cancel Z/p G (common.s * D + common.t * cofactor) 𝟙 ((monic_laws p h.prime).monic_nonzero G G_monic)
        (combination R (G * (common.s * D + common.t * cofactor)) (G * 𝟙)
        (given (- 𝟙) common.bezout ∷ given (- common.s) W_is ∷ given (- (common.s * G)) Q_is ∷ given (- common.t)
        common.right.product ∷ [])
        (identity R (G ∷ common.s ∷ D ∷ common.t ∷ cofactor ∷ W ∷ B ∷ Q ∷ [])
        (λ ρ q_G qs q_D qt qc q_W q_B q_Q. search quotes depth 20) refl))

    bounds : Bounds R (equations s h) D W z
    unfolding cofactor
    bounds = record {
      quotient = λ j. S.quotient (column j) W;
      columns = λ j k. (division_laws p h.prime).quotient_exact (column j) W (divided j k)
          ∙ R.mul_comm (S.quotient (column j) W) W;
      g = G;
      g_nonzero = (monic_laws p h.prime).monic_nonzero G G_monic;
      s = cofactor;
      w_is = W_is ∙ ap (λ x. x * G) Q_is;
      side_is = common.right.product ∙ R.mul_comm cofactor G;
      α = common.s;
      β = common.t;
      coprime = coprime;
    }
      where
        column : ℕ → NumberPolynomial s.modulus
        column j = Witness.column_of (ring_of s h) (equations s h) z j

        divided : (j : ℕ) → j < s.columns → DividesIn R W (column j)
        divided j k = divides_lift p h.prime W (column j)
            (subst (DividesModulo p w) (sym (column_list s h Z P.certifying_numerators j)) (C.columns j k))

    -- whatever clears a rational solution is a multiple of d
    pub divides_clearing : (M : List (List ℕ)) (e : List ℕ) → RationalSolution s M e → (c : List ℕ) → Canonical p c → Clears p c M e
        → DividesModulo p d c
    unfolding Clears numbers
    divides_clearing M e X c hc clears = divides_list p h.prime {d = D} {f = (c, hc)}
        (record { cofactor = t.0; product = t.1 })
      where
        m : ℕ → NumberPolynomial s.modulus
        m = vector s.modulus M X.numerators

        whole : (j : ℕ) → j < s.columns → DividesIn (ring_of s h) (e, X.divisor) ((ring_of s h).mul (c, hc) (m j))
        whole j k = divides_lift s.modulus h.prime (e, X.divisor) ((ring_of s h).mul (c, hc) (m j))
            (clears j (subst (λ n. j < n) (sym X.count) k))

        cleared : ℕ → NumberPolynomial s.modulus
        cleared j = S.quotient (R.mul (c, hc) (m j)) (e, X.divisor)

        t : (t : NumberPolynomial s.modulus) × ((c, hc) ≡ R.mul t D)
        t = bounds_clearing R cancels (equations s h) D W z bounds m (e, X.divisor) (solves M e X) (c, hc) cleared
            (λ j k. (division_laws p h.prime).quotient_exact (R.mul (c, hc) (m j)) (e, X.divisor) (whole j k)
            ∙ R.mul_comm (cleared j) (e, X.divisor))

    -- N/d solves the system
    pub right_solves : RationalSolution s N d
    unfolding Monic numbers
    right_solves = record {
      numerators = P.numerators;
      count = P.count;
      divisor = P.denominator;
      nonzero = λ e. (monic_laws p h.prime).monic_nonzero D C.monic (equal_numbers p D _ e);
      rows = C.rows;
    }

    -- d is the denominator of N/d
    pub right_denominator : Denominator p N d d
    unfolding Clears Monic numbers
    right_denominator = record {
      canonical = P.denominator;
      monic = C.monic;
      clears = λ j k. record {
        quotient = get_or N j [];
        canonical = canonical_at p N P.numerators j;
        product = ap (λ x. x.0) (R.mul_comm D (vector p N P.numerators j));
      };
      least = λ f hf monic clears. divides_size Z/p
          (divides_lift p h.prime D (f, hf) (divides_clearing N d right_solves f hf clears))
          ((monic_laws p h.prime).monic_nonzero (f, hf) monic);
    }

    -- so d is the least denominator
    pub right_least : LeastDenominator s d
    right_least = record {
      canonical = P.denominator;
      monic = C.monic;
      divides = divides_clearing;
      numerators = N;
      over = d;
      solution = right_solves;
      reached = right_denominator;
    }

  -- with a right absence certificate there is no rational solution
  pub right_absent : (q : List (List ℕ)) → AllCanonical p q → RightAbsence s q → (M : List (List ℕ)) (e : List ℕ)
      → ¬ RationalSolution s M e
  unfolding numbers
  right_absent q hq C M e X = excludes R cancels (equations s h) (vector p q hq)
      (λ j k. equal_numbers p _ _ (column_list s h q hq j ∙ C.columns j k))
      (λ z. C.side (sym (side_list s h q hq) ∙ ap (λ x. x.0) z))
      (vector p M X.numerators) (e, X.divisor) (solves M e X)

  -- no system has right certificates of both kinds
  pub never_both : {d : List ℕ} {N : List (List ℕ)} {w : List ℕ} {Z q : List (List ℕ)} → ProperSolution s d N w Z
      → RightSolution s d N w Z
      → AllCanonical p q → ¬ RightAbsence s q
  never_both {d} {N} {w} {Z} {q} P C hq A = right_absent q hq A N d (right_solves P C)

  -- there is one least denominator at the most
  pub least_unique : (c d : List ℕ) → LeastDenominator s c → LeastDenominator s d → c ≡ d
  unfolding Monic
  least_unique c d K L = ap (λ x. x.0) ((monic_laws p h.prime).monic_associates (c, K.canonical) (d, L.canonical) K.monic
      L.monic
      (divides_lift p h.prime (c, K.canonical) (d, L.canonical)
      (K.divides L.numerators L.over L.solution d L.canonical L.reached.clears))
      (divides_lift p h.prime (d, L.canonical) (c, K.canonical)
      (L.divides K.numerators K.over K.solution c K.canonical K.reached.clears)))

  -- and one answer
  pub answer_unique : (a b : Answer) → Answers s a → Answers s b → a ≡ b
  unfolding Answers
  answer_unique none none A B = refl
  answer_unique none (least d) A B = absurd (A B.numerators B.over B.solution)
  answer_unique (least c) none A B = absurd (B A.numerators A.over A.solution)
  answer_unique (least c) (least d) A B = ap least (least_unique c d A B)
