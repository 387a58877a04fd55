-- A right certificate is one of which document 002's conditions hold, and demand 2's own.
use Prim.Native.Nat.{ℕ, zero, suc, ◌<◌}
use Rattle.std.specs.Prelude.{◌≡◌, refl, ◌↔◌, length}
use Rattle.std.proofs.Math.Path.{sym, ap, subst}
use Rattle.std.proofs.Common.{◌∙◌}
use mathlib.Core.List.{List, [], ◌∷◌}
use native.Mathlib.Omega.{arith}
use Rattle.std.proofs.Math.ListN.{get_or}
use Rattle.ring.specs.Ring.{Ring, one_mul}
use Rattle.ring.specs.Identity.{quotes, identity}
use Rattle.ring.specs.Combination.{given, combination}
use Rattle.algebra.specs.Coefficients.{mul, leading, one}
use Rattle.algebra.specs.Sized.{size_mul_nonzero}
use Rattle.algebra.specs.Divides.{Divides as DividesIn, divides_size, mul_divides_cancel}
use Rattle.modular.specs.Prime.{Prime}
use Rattle.modular.specs.Modulo.{modulo}
use Rattle.modular.specs.Canonical.{Canonical}
use Rattle.modular.specs.Residue.{Residue}
use Rattle.modular.specs.Values.{NumberPolynomial, equal_numbers}
use Rattle.modular.specs.Arithmetic.{Arithmetic}
use Rattle.modular.specs.Carried.{number_arithmetic}
use Rattle.modular.specs.SizeLaws.{sized}
use Rattle.modular.specs.MonicLaws.{monic_laws}
use Rattle.modular.specs.Numbers.{numbers}
use Rattle.words.specs.System.{System, side_entry}
use Rattle.truth.specs.Solution.{AllCanonical, DividesModulo, Clears, Monic, Denominator, row_of, column_of, side_of}
use Rattle.truth.specs.Listed.{listed, length_listed, listed_at}
use Rattle.truth.specs.Right.{RightSolution, RightAbsence, certified}
use Rattle.truth.specs.Lift.{Proper, canonical_at, ring_of, equations, vector, column_list, side_list, divides_list}
use Rattle.truth.specs.Lift.{divides_lift}
use Rattle.truth.specs.ProperSolution.{ProperSolution}
use Rattle.truth.proofs.Truth.{right_solves, right_denominator}
use Rattle.truth.proofs.Denominators.{denominator_exists, denominator_unique, denominator_divides, single_denominator}
use Rattle.truth.specs.Certified.{product_of, Whole, Generates, LowestTerms, ZeroFractions, StatedSolution, CertifiedAbsence}
use Rattle.truth.specs.Witness

canonical_listed : (p n : ℕ) (f : ℕ → List ℕ) → ((i : ℕ) → Canonical p (f i)) → AllCanonical p (listed n f)
unfolding listed AllCanonical
canonical_listed p zero f h = tt
canonical_listed p (suc n) f h = (h zero, canonical_listed p n (λ i. f (suc i)) (λ i. h (suc i)))

module _ (p : ℕ) (prime : Prime p) where
  abbrev R : Ring (NumberPolynomial p)
  R = numbers p prime

  open R use {mul as ◌*◌, zero as 𝟘, one as 𝟙}

  infixl 70 ◌*◌
  abbrev S : Arithmetic (Residue p) (NumberPolynomial p)
  S = number_arithmetic p prime

  -- 1 times a polynomial
  one_times : (f : List ℕ) → Canonical p f → mul (modulo p) (1 ∷ []) f ≡ f
  unfolding numbers one modulo
  one_times f hf = ap (λ x. x.0) (one_mul R (f, hf))

  -- fractions are polynomials just where their denominator is 1
  pub whole_one : (M : List (List ℕ)) (e : List ℕ) → Whole p M e ↔ Denominator p M e (1 ∷ [])
  unfolding Monic leading modulo
  whole_one M e = (
    λ h. record {
      canonical = canonical_one;
      monic = refl;
      clears = h;
      least = λ f hf monic clears. (monic_laws p prime).monic_positive (f, hf) monic;
    },
    λ D. D.clears,
  )
    where
      canonical_one : Canonical p (1 ∷ [])
      canonical_one = unfold Canonical in (prime.large, omega arith, tt)

  -- fractions are 0 just where their numerators are
  zero_iff : (M : List (List ℕ)) → AllCanonical p M → (e : List ℕ) → ZeroFractions p M e
      ↔ ((j : ℕ) → j < length M → get_or M j [] ≡ [])
  unfolding numbers one modulo mul
  zero_iff M h_M e = (
    λ z j k. sym (ap (λ x. x.0) (R.mul_one (vector p M h_M j))) ∙ z.entries j k
        ∙ ap (λ f. mul (modulo p) f e) (listed_at (length M) (λ j. []) [] j k),
    λ z. record {
      count = sym (length_listed (length M) (λ j. []));
      entries = λ j k. ap (λ f. mul (modulo p) f (1 ∷ [])) (z j k)
          ∙ ap (λ f. mul (modulo p) f e) (sym (listed_at (length M) (λ j. []) [] j k));
    },
  )

  -- document 002's definition 1: the denominator of M/e generates the ideal of all that clears M/e
  pub generates_iff : (M : List (List ℕ)) (h_M : AllCanonical p M) (e : List ℕ) (he : Canonical p e) (nonzero : ¬ (e ≡ []))
      (c : List ℕ)
      → Denominator p M e c ↔ Generates p M e c
  unfolding Monic numbers
  generates_iff M h_M e he nonzero c = (
    λ D. record {
      canonical = D.canonical;
      monic = D.monic;
      clears = D.clears;
      divides = denominator_divides p prime M h_M e he nonzero c D;
    },
    λ G. record {
      canonical = G.canonical;
      monic = G.monic;
      clears = G.clears;
      least = λ f hf monic clears. divides_size (sized p prime)
          (divides_lift p prime (c, G.canonical) (f, hf) (G.divides f hf clears))
          ((monic_laws p prime).monic_nonzero (f, hf) monic);
    },
  )

  module _ (N : List (List ℕ)) (h_N : AllCanonical p N) (d : List ℕ) (hd : Canonical p d) (monic : Monic p d) where
    abbrev D : NumberPolynomial p
    D = (d, hd)

    abbrev n : ℕ → NumberPolynomial p
    n = vector p N h_N

    nonzero : ¬ (d ≡ [])
    unfolding Monic numbers
    nonzero e = (monic_laws p prime).monic_nonzero D monic (equal_numbers p D _ e)

    -- d times N/d is N
    d_clears : Clears p d N d
    unfolding Clears numbers
    d_clears j k = record {
      quotient = get_or N j [];
      canonical = canonical_at p N h_N j;
      product = ap (λ x. x.0)
          (R.mul_comm D (n j));
    }

    -- N/d is in lowest terms just where d is its denominator. A common divisor c = d/k makes k clear N/d.
    denominator_lowest : Denominator p N d d → LowestTerms p N d
    unfolding LowestTerms Clears Monic numbers one modulo
    denominator_lowest own c hc c_monic divides entries = ap (λ x. x.0) ((monic_laws p prime).monic_unit C c_monic size)
      where
        C : NumberPolynomial p
        C = (c, hc)

        v : DividesIn R C D
        v = divides_lift p prime C D divides

        k : NumberPolynomial p
        k = v.cofactor

        k_monic : S.Monic k
        k_monic = (monic_laws p prime).monic_cofactor C k c_monic (subst S.Monic (v.product ∙ R.mul_comm k C) monic)

        cleared : (j : ℕ) → j < length N → DividesIn R D (k * n j)
        cleared j l =
            let w = divides_lift p prime C (n j) (entries j l) in
            record {
              cofactor = w.cofactor;
              product = combination R (k * n j) (w.cofactor * D)
                  (given k w.product ∷ given (R.neg w.cofactor) v.product ∷ [])
                  (identity R (k ∷ n j ∷ w.cofactor ∷ D ∷ C ∷ []) (λ ρ qk qn qw q_D q_C. search quotes depth 20) refl);
            }

        size : length c ≡ 1
        size = omega (
          arith,
          ap (λ x. length x.0) v.product,
          size_mul_nonzero (sized p prime) k C ((monic_laws p prime).monic_nonzero k k_monic)
              ((monic_laws p prime).monic_nonzero C c_monic),
          own.least k.0 k.1 k_monic (λ j l. divides_list p prime (cleared j l)),
          (monic_laws p prime).monic_positive k k_monic,
          (monic_laws p prime).monic_positive C c_monic,
        )

    -- the denominator c divides d, and d/c divides d and N
    lowest_is : LowestTerms p N d → (c : List ℕ) → Denominator p N d c → c ≡ d
    unfolding LowestTerms Clears Monic numbers one modulo
    lowest_is low c own = sym (ap (λ x. x.0) (v.product ∙ ap (λ x. x * C) k_one ∙ one_mul R C))
      where
        C : NumberPolynomial p
        C = (c, own.canonical)

        v : DividesIn R C D
        v = divides_lift p prime C D (denominator_divides p prime N h_N d hd nonzero c own d hd d_clears)

        k : NumberPolynomial p
        k = v.cofactor

        k_monic : S.Monic k
        k_monic = (monic_laws p prime).monic_cofactor C k own.monic (subst S.Monic (v.product ∙ R.mul_comm k C) monic)

        entry : (j : ℕ) → j < length N → DividesIn R k (n j)
        entry j l = mul_divides_cancel (sized p prime) C k (n j) ((monic_laws p prime).monic_nonzero C own.monic)
            (subst (λ x. DividesIn R x (C * n j)) (v.product ∙ R.mul_comm k C)
            (divides_lift p prime D (C * n j) (own.clears j l)))

        k_one : k ≡ 𝟙
        k_one = equal_numbers p k 𝟙 (low k.0 k.1 k_monic
            (divides_list p prime {d = k} {f = D} (record { cofactor = C; product = v.product ∙ R.mul_comm k C }))
            (λ j l. divides_list p prime (entry j l)))

    pub lowest_iff : LowestTerms p N d ↔ Denominator p N d d
    lowest_iff = (
      λ low. let own = denominator_exists p prime N h_N d hd nonzero in
          subst (Denominator p N d) (lowest_is low own.0 own.1) own.1,
      denominator_lowest,
    )

module _ (s : System) (h : Proper s) where
  abbrev p : ℕ
  p = s.modulus

  module _ (Z : List (List ℕ)) (h_Z : AllCanonical s.modulus Z) where
    column_canonical : (j : ℕ) → Canonical p (column_of s Z j)
    column_canonical j = subst (Canonical p) (column_list s h Z h_Z j)
        (Witness.column_of (ring_of s h) (equations s h) (vector p Z h_Z) j).1

    pub side_canonical : Canonical p (side_of s Z)
    side_canonical = subst (Canonical p) (side_list s h Z h_Z) (Witness.side_of (ring_of s h) (equations s h) (vector p Z h_Z)).1

    -- 1 times an entry of Z·A
    entry_is : (j : ℕ) → j < s.columns → mul (modulo p) (1 ∷ []) (get_or (product_of s Z) j []) ≡ column_of s Z j
    unfolding product_of
    entry_is j k = ap (mul (modulo p) (1 ∷ [])) (listed_at s.columns (column_of s Z) [] j k)
        ∙ one_times p h.prime (column_of s Z j) (column_canonical j)

    -- "every entry of Z·A is divisible by w" says that the entries of z·A are polynomials
    pub whole_iff : (w : List ℕ) → ((j : ℕ) → j < s.columns → DividesModulo p w (column_of s Z j)) ↔ Whole p (product_of s Z) w
    unfolding Clears product_of
    whole_iff w = (
      λ columns j k. let l = subst (λ n. j < n) (length_listed s.columns (column_of s Z)) k in
          subst (DividesModulo p w) (sym (entry_is j l)) (columns j l),
      λ whole j k. subst (DividesModulo p w) (entry_is j k)
          (whole j (subst (λ n. j < n) (sym (length_listed s.columns (column_of s Z))) k)),
    )

    product_canonical : AllCanonical p (product_of s Z)
    unfolding product_of
    product_canonical = canonical_listed p s.columns (column_of s Z) column_canonical

    -- (2): q of fractions, or its numerators
    pub absent_iff_certified : (e : List ℕ) → ¬ (e ≡ []) → RightAbsence s Z ↔ CertifiedAbsence s Z e
    unfolding AllCanonical product_of
    absent_iff_certified e nonzero =
        let columns = zero_iff p h.prime (product_of s Z) product_canonical e in
        let side = zero_iff p h.prime (side_of s Z ∷ []) (side_canonical, tt) e in
        let n = length_listed s.columns (column_of s Z) in (
          λ C. record {
            certifying = nonzero;
            columns = columns.1 (λ j k. let l = subst (λ n. j < n) n k in listed_at s.columns (column_of s Z) [] j l
                ∙ C.columns j l);
            side = λ z. C.side (side.0 z 0 (omega arith));
          },
          λ C. record {
            columns = λ j k. sym (listed_at s.columns (column_of s Z) [] j k)
                ∙ columns.0 C.columns j (subst (λ n. j < n) (sym n) k);
            side = λ z. C.side (side.1 (only z));
          },
        )
      where
        only : side_of s Z ≡ [] → (j : ℕ) → j < 1 → get_or (side_of s Z ∷ []) j [] ≡ []
        only z zero k = z
        only z (suc j) k = absurd (omega arith)

    -- "w divided by the greatest common divisor of w and Z·b, made monic" is the denominator of z·b
    pub certified_denominator : (w : List ℕ) → Canonical p w → ¬ (w ≡ []) → Denominator p (side_of s Z ∷ []) w (certified s w Z)
    unfolding certified
    certified_denominator w hw nonzero = single_denominator p h.prime (side_of s Z) w side_canonical hw nonzero

    -- and nothing else is
    pub certified_iff : (w : List ℕ) → Canonical p w → ¬ (w ≡ []) → (d : List ℕ)
        → (certified s w Z ≡ d) ↔ Denominator p (side_of s Z ∷ []) w d
    unfolding AllCanonical
    certified_iff w hw nonzero d =
        let own = certified_denominator w hw nonzero in (
          λ e. subst (Denominator p (side_of s Z ∷ []) w) e own,
          λ D. denominator_unique p h.prime (side_of s Z ∷ []) (side_canonical, tt) w hw nonzero (certified s w Z) d own D,
        )

  module _ {d : List ℕ} {N : List (List ℕ)} {w : List ℕ} {Z : List (List ℕ)} (P : ProperSolution s d N w Z) where
    pub certifying_nonzero : Monic p w → ¬ (w ≡ [])
    unfolding Monic numbers
    certifying_nonzero m e = (monic_laws p h.prime).monic_nonzero (w, P.certifying_denominator) m
        (equal_numbers p (w, P.certifying_denominator) _ e)

    right_certified : RightSolution s d N w Z → StatedSolution s d N w Z
    right_certified C = record {
      certified = record {
        solves = right_solves s h P C;
        certifying = certifying_nonzero C.certifying_monic;
        whole = (whole_iff Z P.certifying_numerators w).0 C.columns;
        denominator = d;
        of_solution = right_denominator s h P C;
        of_side = (certified_iff Z P.certifying_numerators w P.certifying_denominator (certifying_nonzero C.certifying_monic)
            d).0 C.denominators;
      };
      monic = C.monic;
      certifying_monic = C.certifying_monic;
      lowest = (lowest_iff p h.prime N P.numerators d P.denominator C.monic).1 (right_denominator s h P C);
    }

    certified_right : StatedSolution s d N w Z → RightSolution s d N w Z
    certified_right C =
        let same : C.certified.denominator ≡ d = lowest_is p h.prime N P.numerators d P.denominator C.monic
        C.lowest
        C.certified.denominator C.certified.of_solution in
        record {
          monic = C.monic;
          certifying_monic = C.certifying_monic;
          rows = C.certified.solves.rows;
          columns = (whole_iff Z P.certifying_numerators w).1 C.certified.whole;
          denominators = (certified_iff Z P.certifying_numerators w P.certifying_denominator C.certified.certifying d).1
              (subst (Denominator p (side_of s Z ∷ []) w) same C.certified.of_side);
        }

    pub right_iff_certified : RightSolution s d N w Z ↔ StatedSolution s d N w Z
    right_iff_certified = (right_certified, certified_right)

    -- "the denominator of z·A, which is 1 on every right card"
    pub right_whole : RightSolution s d N w Z → Denominator p (product_of s Z) w (1 ∷ [])
    right_whole C = (whole_one p h.prime (product_of s Z) w).0 ((whole_iff Z P.certifying_numerators w).0 C.columns)

    -- what 34 asks, where 31 to 33 turn nothing back: "zb and y have the same denominator" and N/d is in lowest terms. (In case 9
    -- they have, and N/d is not.)
    pub denominators_iff : Monic p d → Monic p w → ((i : ℕ) → i < s.rows → row_of s N i ≡ mul (modulo p) d (side_entry s i))
        → ((j : ℕ) → j < s.columns → DividesModulo p w (column_of s Z j))
        → Denominator p (side_of s Z ∷ []) w d
        ↔ (LowestTerms p N d × ((c : List ℕ) × Denominator p N d c × Denominator p (side_of s Z ∷ []) w c))
    denominators_iff monic certifying rows columns = (
      λ D.
          let C = right_certified (record {
            monic = monic;
            certifying_monic = certifying;
            rows = rows;
            columns = columns;
            denominators = (certified_iff Z P.certifying_numerators w P.certifying_denominator (certifying_nonzero certifying) d
                ).1 D;
          }) in
          (C.lowest, (C.certified.denominator, C.certified.of_solution, C.certified.of_side)),
      λ t. subst (Denominator p (side_of s Z ∷ []) w)
          (lowest_is p h.prime N P.numerators d P.denominator monic t.0 t.1.0 t.1.1) t.1.2,
    )
