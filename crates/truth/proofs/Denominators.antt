-- Every vector of fractions has one denominator (document 01, "The system": "*the* monic polynomial of least degree that, times y,
-- leaves only polynomials"): e divided by the greatest common divisor of e and the numerators. "The vector zero has denominator 1."
use Prim.Native.Nat.{ℕ, zero, suc, ◌<◌}
use Rattle.std.specs.Prelude.{◌≡◌, List, [], ◌∷◌, length, get_or}
use Rattle.std.proofs.Math.Path.{refl, ap, subst}
use Rattle.std.proofs.Common.{sym, ◌∙◌}
use native.Mathlib.Omega.{arith}
use Rattle.std.proofs.Math.Decide.{ℕ_discrete}
use Rattle.ring.specs.Ring.{Ring, one_mul}
use Rattle.ring.specs.Identity.{quotes, identity}
use Rattle.ring.specs.Combination.{given, combination}
use Rattle.algebra.specs.Coefficients.{mul, leading, gcd, quotient, monic}
use Rattle.algebra.specs.Sized.{size_positive, size_mul_nonzero, mul_nonzero_left, mul_nonzero_right}
use Rattle.algebra.specs.Divides.{Divides as DividesIn, divides_refl, divides_equal, divides_trans, divides_mul}
use Rattle.algebra.specs.Divides.{divides_combination, divides_size, mul_divides_cancel}
use Rattle.algebra.specs.Bezout.{Greatest}
use Rattle.modular.specs.Prime.{Prime}
use Rattle.modular.specs.Modulo.{modulo}
use Rattle.modular.specs.Canonical.{Canonical}
use Rattle.modular.specs.Closed.{canonical_nil}
use Rattle.modular.specs.Residue.{Residue}
use Rattle.modular.specs.Values.{NumberPolynomial}
use Rattle.modular.specs.Arithmetic.{Arithmetic}
use Rattle.modular.specs.Carried.{number_arithmetic}
use Rattle.modular.specs.SizeLaws.{sized}
use Rattle.modular.specs.DivisionLaws.{division_laws}
use Rattle.modular.specs.MonicLaws.{monic_laws}
use Rattle.modular.specs.GcdLaws.{gcd_laws}
use Rattle.modular.specs.Numbers.{numbers}
use Rattle.truth.specs.Solution.{AllCanonical, DividesModulo, Clears, Monic, Denominator}
use Rattle.truth.specs.Lift.{vector, divides_list, divides_lift}

module _ (p : ℕ) (prime : Prime p) where
  abbrev P : Type 0
  P = NumberPolynomial p

  abbrev R : Ring (NumberPolynomial p)
  R = numbers p prime

  open R use {add as ◌+◌, mul as ◌*◌, zero as 𝟘, one as 𝟙}

  infixl 65 ◌+◌
  infixl 70 ◌*◌
  abbrev S : Arithmetic (Residue p) (NumberPolynomial p)
  S = number_arithmetic p prime

  -- the greatest common divisor of e and the first n entries of a vector
  common : P → (ℕ → P) → ℕ → P
  common e m zero = e
  common e m (suc n) = S.gcd (m n) (common e m n)

  -- what divides f·e and every f·m_j divides f times the common divisor
  common_whole : (d f e : P) (m : ℕ → P) (n : ℕ) → DividesIn R d (f * e) → ((j : ℕ) → j < n → DividesIn R d (f * m j))
      → DividesIn R d (f * common e m n)
  unfolding common
  common_whole d f e m zero he hm = he
  common_whole d f e m (suc n) he hm = whole ((gcd_laws p prime).gcd_common (m n) (common e m n)) (hm n (omega arith))
      (common_whole d f e m n he (λ j k. hm j (omega arith)))
    where
      whole : {g : P} → Greatest R (m n) (common e m n) g → DividesIn R d (f * m n) → DividesIn R d (f * common e m n)
          → DividesIn R d (f * g)
      whole {g} w x y = divides_equal (combination R (w.s * (f * m n) + w.t * (f * common e m n)) (f * g)
          (given (R.neg f) w.bezout ∷ [])
          (identity R (w.s ∷ f ∷ m n ∷ w.t ∷ common e m n ∷ g ∷ []) (λ ρ qs qf qm qt qc qg. search quotes depth 20) refl))
          (divides_combination w.s w.t x y)

  common_divides : (e : P) (m : ℕ → P) (n : ℕ) → DividesIn R (common e m n) e
  unfolding common
  common_divides e m zero = record { cofactor = 𝟙; product = identity R (e ∷ []) (λ ρ qe. search quotes depth 16) refl }
  common_divides e m (suc n) = divides_trans ((gcd_laws p prime).gcd_common (m n) (common e m n)).right (common_divides e m n)

  common_divides_entry : (e : P) (m : ℕ → P) (n j : ℕ) → j < n → DividesIn R (common e m n) (m j)
  unfolding common
  common_divides_entry e m zero j k = absurd (omega arith)
  common_divides_entry e m (suc n) j k = go (ℕ_discrete j n) (λ l. common_divides_entry e m n j l)
    where
      go : Dec (j ≡ n) → (j < n → DividesIn R (common e m n) (m j)) → DividesIn R (S.gcd (m n) (common e m n)) (m j)
      go (yes q) rec = subst (λ i. DividesIn R (S.gcd (m n) (common e m n)) (m i)) (sym q)
          ((gcd_laws p prime).gcd_common (m n) (common e m n)).left
      go (no q) rec = divides_trans ((gcd_laws p prime).gcd_common (m n) (common e m n)).right (rec (omega arith))

  module _ (M : List (List ℕ)) (h_M : AllCanonical p M) (e : List ℕ) (he : Canonical p e) (nonzero : ¬ (e ≡ [])) where
    abbrev E : NumberPolynomial p
    E = (e, he)

    abbrev m : ℕ → NumberPolynomial p
    m = vector p M h_M

    abbrev g : NumberPolynomial p
    g = common E m (length M)

    abbrev q : NumberPolynomial p
    q = S.quotient E g

    E_nonzero : ¬ (E ≡ 𝟘)
    unfolding numbers
    E_nonzero z = nonzero (ap (λ x. x.0) z)

    E_is : E ≡ q * g
    E_is = (division_laws p prime).quotient_exact E g (common_divides E m (length M))

    g_nonzero : ¬ (g ≡ 𝟘)
    g_nonzero = mul_nonzero_right (sized p prime) q g (λ z. E_nonzero (E_is ∙ z))

    q_positive : 0 < length q.0
    q_positive = size_positive (sized p prime) q (mul_nonzero_left (sized p prime) q g (λ z. E_nonzero (E_is ∙ z)))

    abbrev c : NumberPolynomial p
    c = S.monic q

    -- e divides c·m_j: m_j = r·g and e = q·g, and q divides c
    cleared : (j : ℕ) → j < length M → DividesIn R E (c * m j)
    cleared j k =
        let w = common_divides_entry E m (length M) j k in
        let v = (monic_laws p prime).divides_monic q in
        record {
          cofactor = v.cofactor * w.cofactor;
          product = combination R (c * m j) (v.cofactor * w.cofactor * E)
              (given (m j) v.product ∷ given (v.cofactor * q) w.product ∷ given (R.neg (v.cofactor * w.cofactor)) E_is ∷
              [])
              (identity R (c ∷ m j ∷ v.cofactor ∷ w.cofactor ∷ E ∷ q ∷ g ∷ []) (λ ρ qc qm qv qw q_E qq qg. search quotes depth 20)
              refl);
        }

    -- whatever clears is a multiple of q, so of c
    clearing : (f : P) → ((j : ℕ) → j < length M → DividesIn R E (f * m j)) → DividesIn R c f
    clearing f h = divides_trans ((monic_laws p prime).monic_divides q)
        (mul_divides_cancel (sized p prime) g q f g_nonzero
        (divides_equal (R.mul_comm f g) (subst (λ x. DividesIn R x (f * g)) (E_is ∙ R.mul_comm q g)
        (common_whole E f E m (length M) (divides_mul f (divides_refl E)) h))))

    own : Denominator p M e c.0
    unfolding Clears Monic numbers
    own = record {
      canonical = c.1;
      monic = (monic_laws p prime).monic_monic q q_positive;
      clears = λ j k. divides_list p prime (cleared j k);
      least = λ f hf monic clears. divides_size (sized p prime)
          (clearing (f, hf) (λ j k. divides_lift p prime E ((f, hf) * m j) (clears j k)))
          ((monic_laws p prime).monic_nonzero (f, hf) monic);
    }

    pub denominator_exists : (d : List ℕ) × Denominator p M e d
    denominator_exists = (c.0, own)

    -- c divides every denominator, which is not longer, so that the cofactor is monic and a constant
    is_own : (d : List ℕ) → Denominator p M e d → d ≡ c.0
    unfolding Clears Monic numbers
    is_own d D = ap (λ x. x.0) (v.product ∙ ap (λ x. x * c) ((monic_laws p prime).monic_unit k k_monic k_size) ∙ one_mul R c)
      where
        T : NumberPolynomial p
        T = (d, D.canonical)

        v : DividesIn R c T
        v = clearing T (λ j l. divides_lift p prime E (R.mul T (m j)) (D.clears j l))

        k : NumberPolynomial p
        k = v.cofactor

        c_monic : S.Monic c
        c_monic = own.monic

        k_monic : S.Monic k
        k_monic = (monic_laws p prime).monic_cofactor c k c_monic (subst S.Monic (v.product ∙ R.mul_comm k c) D.monic)

        k_size : length k.0 ≡ 1
        k_size = omega (
          arith,
          size_mul_nonzero (sized p prime) k c ((monic_laws p prime).monic_nonzero k k_monic)
              ((monic_laws p prime).monic_nonzero c c_monic),
          ap (λ x. length x.0) v.product,
          D.least c.0 c.1 c_monic own.clears,
          (monic_laws p prime).monic_positive k k_monic,
        )

    pub denominator_unique : (d f : List ℕ) → Denominator p M e d → Denominator p M e f → d ≡ f
    denominator_unique d f D F = is_own d D ∙ sym (is_own f F)

    -- it divides whatever clears: it generates the ideal of what clears
    pub denominator_divides : (d : List ℕ) → Denominator p M e d → (f : List ℕ) → Canonical p f → Clears p f M e
        → DividesModulo p d f
    unfolding Clears numbers
    denominator_divides d D f hf h = subst (λ x. DividesModulo p x f) (sym (is_own d D))
        (divides_list p prime {d = c} {f = (f, hf)} (clearing (f, hf) (λ j k. divides_lift p prime E ((f, hf) * m j) (h j k))))

  -- of one fraction f/e: "w divided by the greatest common divisor of w and Z·b, made monic"
  pub single_denominator : (f e : List ℕ) → Canonical p f → Canonical p e → ¬ (e ≡ [])
      → Denominator p (f ∷ []) e (monic (modulo p) (quotient (modulo p) e (gcd (modulo p) e f)))
  unfolding AllCanonical common numbers
  single_denominator f e hf he nonzero =
      subst (λ x. Denominator p (f ∷ []) e (S.monic (S.quotient (e, he) x)).0) ((gcd_laws p prime).gcd_comm (f, hf) (e, he))
      (own (f ∷ []) (hf, tt) e he nonzero)

  -- "Zero is divisible by everything"
  pub everything_divides_zero : (d : List ℕ) → DividesModulo p d []
  unfolding mul
  everything_divides_zero d = record { quotient = []; canonical = canonical_nil p; product = refl }

  -- "and the divisor of w and zero is w"
  pub gcd_with_zero : (w : List ℕ) → Canonical p w → Monic p w → gcd (modulo p) w [] ≡ w
  unfolding Monic numbers
  gcd_with_zero w hw h = ap (λ x. x.0) ((gcd_laws p prime).gcd_zero_right (w, hw) ∙ (monic_laws p prime).monic_same (w, hw) h)

  -- "The vector zero has denominator 1."
  pub zero_denominator : (M : List (List ℕ)) (e : List ℕ) → ((j : ℕ) → j < length M → get_or M j [] ≡ []) → Denominator p M e (1 ∷ [])
  unfolding Clears Monic modulo leading mul numbers
  zero_denominator M e h = record {
    canonical = canonical_one;
    monic = refl;
    clears = λ j k. subst (λ f. DividesModulo p e (mul (modulo p) (1 ∷ []) f)) (sym (h j k)) (everything_divides_zero e);
    least = λ f hf monic clears. (monic_laws p prime).monic_positive (f, hf) monic;
  }
    where
      canonical_one : Canonical p (1 ∷ [])
      canonical_one = unfold Canonical in (prime.large, omega arith, tt)
