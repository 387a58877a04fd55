-- Why no rational solution has less delay or less feedback than the least denominator: it divides every solution's denominator,
-- and in products delay and feedback add up. The certificate's solution has both.
use Rattle.std.specs.Prelude.{ℕ, zero, suc, ◌+◌, ◌-◌, ◌≤◌, ◌<◌, ◌≡◌, refl, ◌↔◌, List, [], ◌∷◌}
use Rattle.std.proofs.Common.{sym, ◌∙◌, subst}
use Rattle.std.proofs.Math.Path.{ap}
use native.Mathlib.Omega.{arith}
use Rattle.std.proofs.Math.ListN.{length}
use Rattle.algebra.specs.Coefficients.{one, mul, shift, coefficient, leading}
use Rattle.modular.specs.Prime.{Prime}
use Rattle.modular.specs.Primality.{prime_positive}
use Rattle.modular.specs.Modulo.{modulo}
use Rattle.modular.specs.Canonical.{Canonical}
use Rattle.modular.specs.Closed.{canonical_one, canonical_shift}
use Rattle.modular.specs.Lists.{mul_comm, mul_one, shift_mul, shift_shift}
use Rattle.modular.specs.Delay.{degree, delay, undelayed, feedback}
use Rattle.modular.proofs.DelayLaws.{canonical_undelayed, shift_undelayed, undelayed_first, shift_apart}
use Rattle.modular.proofs.DelayLaws.{first_positive, delay_mul, feedback_mul}
use Rattle.words.specs.System.{System}
use Rattle.words.specs.Certificate.{Certificate}
use Rattle.words.specs.Certificate.Certificate.{solution, absence}
use Rattle.truth.specs.Solution.{RationalSolution, DividesModulo, Clears, Monic, Denominator, Answers}
use Rattle.truth.specs.Solution.Answer.{least}
use Rattle.truth.proofs.Denominators.{denominator_exists, denominator_unique, denominator_divides, everything_divides_zero}
use Rattle.truth.proofs.DemandLaws.{DividesEvery, least_divides, Says}
use Rattle.truth.specs.Feedback.{power_of_x, TakenOut, SolutionWith, LeastOfEither, SaysLeast}

nonzero_positive : (f : List ℕ) → ¬ (f ≡ []) → 0 < length f
nonzero_positive [] h = absurd (h refl)
nonzero_positive (a ∷ f) h = omega arith

pub monic_nonzero : (p : ℕ) (f : List ℕ) → Monic p f → ¬ (f ≡ [])
unfolding Monic leading modulo
monic_nonzero p f h e = let z : ◌≡◌ {A = ℕ} 0 1 = ap (leading (modulo p)) (sym e) ∙ h in omega arith

-- ---- factors x

module _ (p : ℕ) (prime : Prime p) where
  positive : 0 < p
  positive = prime_positive p prime

  canonical_power : (k : ℕ) → Canonical p (power_of_x p k)
  canonical_power k = canonical_shift p positive k (one (modulo p)) (canonical_one p prime.large)

  one_first : 0 < coefficient (modulo p) (one (modulo p)) 0
  unfolding one coefficient modulo
  one_first = omega arith

  delay_power : (k : ℕ) → delay (power_of_x p k) ≡ k
  delay_power k = (shift_apart p k (one (modulo p)) one_first).0

  -- a product with x^k
  power_mul : (k : ℕ) (f : List ℕ) → Canonical p f → mul (modulo p) (power_of_x p k) f ≡ shift (modulo p) k f
  power_mul k f h =
      let unit = canonical_one p prime.large in
      sym (shift_mul p prime k (one (modulo p)) f unit h)
      ∙ ap (shift (modulo p) k) (mul_comm p prime (one (modulo p)) f unit h ∙ mul_one p prime f h)

  -- a divisor of what is not zero has no more of either
  pub divisor_most : (d c : List ℕ) → Canonical p d → ¬ (c ≡ []) → DividesModulo p d c
      → (feedback d ≤ feedback c) × (delay d ≤ delay c)
  unfolding mul
  divisor_most d c hd hc w = (omega (arith, feedbacks), omega (arith, delays))
    where
      quotient_positive : 0 < length w.quotient
      quotient_positive = nonzero_positive w.quotient (λ e. hc (w.product ∙ ap (λ q. mul (modulo p) q d) e))

      d_positive : 0 < length d
      d_positive = nonzero_positive d (λ e. hc (w.product ∙ mul_comm p prime w.quotient d w.canonical hd
          ∙ ap (λ f. mul (modulo p) f w.quotient) e))

      delays : delay c ≡ delay w.quotient + delay d
      delays = ap delay w.product ∙ delay_mul p prime w.quotient d w.canonical hd quotient_positive d_positive

      feedbacks : feedback c ≡ feedback w.quotient + feedback d
      feedbacks = ap feedback w.product ∙ feedback_mul p prime w.quotient d w.canonical hd quotient_positive d_positive

  module _ (d : List ℕ) (hd : Canonical p d) (nonzero : ¬ (d ≡ [])) where
    -- the delay is the number of factors x: x^k divides d for k up to it, and for no other
    pub factors_x : (k : ℕ) → (k ≤ delay d) ↔ DividesModulo p (power_of_x p k) d
    factors_x k = (divided, counted)
      where
        rest : List ℕ
        rest = shift (modulo p) (delay d - k) (undelayed d)

        rest_canonical : Canonical p rest
        rest_canonical = canonical_shift p positive (delay d - k) (undelayed d) (canonical_undelayed p d hd)

        divided : k ≤ delay d → DividesModulo p (power_of_x p k) d
        divided h =
            let all : delay d ≡ k + (delay d - k) = omega arith in
            record {
              quotient = rest;
              canonical = rest_canonical;
              product =
                  sym (shift_undelayed p d hd)
                  ∙ ap (λ n. shift (modulo p) n (undelayed d)) all
                  ∙ sym (shift_shift p prime k (delay d - k) (undelayed d))
                  ∙ sym (power_mul k rest rest_canonical)
                  ∙ mul_comm p prime (power_of_x p k) rest (canonical_power k) rest_canonical;
            }

        counted : DividesModulo p (power_of_x p k) d → k ≤ delay d
        counted w = subst (λ n. n ≤ delay d) (delay_power k) (divisor_most (power_of_x p k) d (canonical_power k) nonzero w).1

  first_delay : (f : List ℕ) → 0 < coefficient (modulo p) f 0 → delay f ≡ 0
  unfolding shift
  first_delay f first = (shift_apart p 0 f first).0

  -- d = x^k·f, where k is its delay and f what is left
  pub taken_out : (d : List ℕ) → Canonical p d → ¬ (d ≡ []) → TakenOut p d (delay d) (undelayed d)
  taken_out d hd nonzero = record {
    canonical = left_canonical;
    product = sym (shift_undelayed p d hd) ∙ sym (power_mul (delay d) (undelayed d) left_canonical);
    no_more = λ w.
        absurd (omega (arith, first_delay (undelayed d) first, (factors_x (undelayed d) left_canonical left_nonzero _).1 w));
  }
    where
      left_canonical : Canonical p (undelayed d)
      left_canonical = canonical_undelayed p d hd

      first : 0 < coefficient (modulo p) (undelayed d) 0
      first = undelayed_first p d hd (nonzero_positive d nonzero)

      left_nonzero : ¬ (undelayed d ≡ [])
      left_nonzero e = absurd (omega (arith, ap length e, first_positive p (undelayed d) first))

  module _ (d : List ℕ) (k : ℕ) (f : List ℕ) (T : TakenOut p d k f) where
    d_is : d ≡ shift (modulo p) k f
    d_is = T.product ∙ power_mul k f T.canonical

    -- zero has factors x without end
    left_nonzero : ¬ (f ≡ [])
    left_nonzero e = T.no_more (subst (DividesModulo p _) (sym e) (everything_divides_zero p prime _))

    no_delay : delay f ≡ 0
    no_delay = by_count (delay f) refl
      where
        by_count : (n : ℕ) → delay f ≡ n → delay f ≡ 0
        by_count zero e = e
        by_count (suc n) e = absurd (T.no_more ((factors_x f T.canonical left_nonzero _).0 (omega (arith, e))))

    whole : undelayed f ≡ f
    unfolding shift
    whole = ap (λ n. shift (modulo p) n (undelayed f)) (sym no_delay) ∙ shift_undelayed p f T.canonical

    first : 0 < coefficient (modulo p) f 0
    first =
        subst (λ g. 0 < coefficient (modulo p) g 0) whole (undelayed_first p f T.canonical (nonzero_positive f left_nonzero))

    -- there is no other such k, and no other such f
    pub taken_out_only : (delay d ≡ k) × (undelayed d ≡ f)
    taken_out_only = let apart = shift_apart p k f first in (ap delay d_is ∙ apart.0, ap undelayed d_is ∙ apart.1)

    pub feedback_left : feedback d ≡ degree f
    unfolding feedback
    feedback_left = ap degree taken_out_only.1

    taken_nonzero : ¬ (d ≡ [])
    unfolding undelayed
    taken_nonzero e = left_nonzero (sym taken_out_only.1 ∙ ap undelayed e)

-- ---- solutions

module _ (s : System) (prime : Prime s.modulus) where
  abbrev p : ℕ
  p = s.modulus

  -- with the feedback and the delay of its denominator
  by_own : (M : List (List ℕ)) (e : List ℕ) → RationalSolution s M e → (c : List ℕ) → Denominator p M e c
      → SolutionWith s M e (feedback c) (delay c)
  unfolding feedback
  by_own M e X c D = record {
    solves = X;
    denominator = c;
    own = D;
    left = undelayed c;
    taken = taken_out p prime c D.canonical (monic_nonzero p c D.monic);
    degree_is = refl;
  }

  -- every rational solution has one feedback and one delay
  pub solution_with : (M : List (List ℕ)) (e : List ℕ) → RationalSolution s M e → (n : ℕ) × (k : ℕ) × SolutionWith s M e n k
  solution_with M e X =
      let c = denominator_exists p prime M X.numerators e X.divisor X.nonzero in
      (feedback c.0, delay c.0, by_own M e X c.0 c.1)

  pub solution_one : (M : List (List ℕ)) (e : List ℕ) (n k i j : ℕ) → SolutionWith s M e n k → SolutionWith s M e i j
      → (n ≡ i) × (k ≡ j)
  solution_one M e n k i j X Y =
      let x = X.solves in
      let same = denominator_unique p prime M x.numerators e x.divisor x.nonzero X.denominator Y.denominator X.own
      Y.own in
      let xs = taken_out_only p prime X.denominator k X.left X.taken in
      let ys = taken_out_only p prime Y.denominator j Y.left Y.taken in (
        sym X.degree_is ∙ ap degree (sym xs.1 ∙ ap undelayed same ∙ ys.1) ∙ Y.degree_is,
        sym xs.0 ∙ ap delay same ∙ ys.0,
      )

  -- What divides the denominator of every solution, and is that of one, has the least of either.
  module _ (d : List ℕ) (every : DividesEvery s d) (N : List (List ℕ)) (g : List ℕ) (solves : RationalSolution s N g)
      (own : Denominator s.modulus N g d) where
    -- a solution's denominator divides whatever clears it
    clearing : (M : List (List ℕ)) (e : List ℕ) → RationalSolution s M e → (c : List ℕ) → Canonical p c → Clears p c M e
        → (j : ℕ) (f : List ℕ) → TakenOut p c j f → (feedback d ≤ degree f) × (delay d ≤ j)
    clearing M e X c hc clears j f T =
        let b = denominator_exists p prime M X.numerators e X.divisor X.nonzero in
        let B = b.1 in
        let below = divisor_most p prime d b.0 own.canonical (monic_nonzero p b.0 B.monic) (every M e X b.0 B) in
        let above = divisor_most p prime b.0 c B.canonical (taken_nonzero p prime c j f T)
        (denominator_divides p prime M X.numerators e X.divisor X.nonzero b.0 B c hc clears) in (
          omega (arith, below.0, above.0, feedback_left p prime c j f T),
          omega (arith, below.1, above.1, (taken_out_only p prime c j f T).0),
        )

    least_by : LeastOfEither s (feedback d) (delay d)
    least_by = record {
      no_less = λ M e i j X.
          let D = X.own in
          let more = clearing M e X.solves X.denominator D.canonical D.clears j X.left X.taken in
          (omega (arith, more.0, X.degree_is), more.1);
      no_less_clearing = clearing;
      numerators = N;
      over = g;
      reached = by_own N g solves d own;
    }

  -- "No rational solution has less of either", of the answer to a system
  pub answer_least : (d : List ℕ) → Answers s (least d) → LeastOfEither s (feedback d) (delay d)
  unfolding Answers
  answer_least d L = least_by d (least_divides s d L) L.numerators L.over L.solution L.reached

  -- of what a certificate says, whose own solution has both
  pub says_least : (c : Certificate) → Says s c → SaysLeast s c
  unfolding Says SaysLeast
  says_least (solution d N w Z) t =
      (by_own N d t.solves d t.own, least_by d t.divides N d t.solves t.own)
  says_least (absence q) t = t

-- no other numbers are the least
pub least_one : (s : System) (n k i j : ℕ) → LeastOfEither s n k → LeastOfEither s i j → (n ≡ i) × (k ≡ j)
least_one s n k i j K J =
    let over = K.no_less J.numerators J.over i j J.reached in
    let under = J.no_less K.numerators K.over n k K.reached in
    (omega (arith, over.0, under.0), omega (arith, over.1, under.1))
