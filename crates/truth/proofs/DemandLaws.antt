-- Demand 3 in its own words, of two lists of words and the verdict on them.
use Rattle.std.specs.Prelude.{ℕ, ◌≡◌, refl, List, get_or}
use Rattle.std.proofs.Common.{sym, ◌∙◌, ap, subst}
use Rattle.words.specs.Limits.{Limits}
use Rattle.words.specs.LimitsLaws.{LimitsFit}
use Rattle.words.specs.Outcome.Outcome.{accepted}
use Rattle.words.specs.System.{System, SystemWithin, shape}
use Rattle.words.specs.Systems.{read_line}
use Rattle.words.specs.Line.{LineIn}
use Rattle.words.proofs.LineLaws.{line_read_of_written, line_in_within}
use Rattle.words.specs.Certificate.{Certificate, CertificateWithin, certificate_form, form_word, certificate_words}
use Rattle.words.specs.Certificate.Certificate.{solution, absence}
use Rattle.words.specs.Frame.{framed_words}
use Rattle.truth.specs.Solution.{RationalSolution, DividesModulo, Denominator, LeastDenominator}
use Rattle.truth.specs.Verdict.{verdict}
use Rattle.truth.proofs.Truth.{least_unique}
use Rattle.truth.proofs.Accepted.{AcceptedWords, words_of_accepted, proper}
use Rattle.truth.specs.Demand.{True}
use Rattle.truth.proofs.DemandTruth.{right_true, words_true}
use Rattle.truth.specs.Certified.{Certified}
use Rattle.truth.proofs.CertifiedWords.{within_certified}

-- "divides the denominator of every rational solution"
abbrev pub DividesEvery : System → List ℕ → Type 0
DividesEvery s d = (M : List (List ℕ)) (e : List ℕ) → RationalSolution s M e → (c : List ℕ) → Denominator s.modulus M e c
    → DividesModulo s.modulus d c

pub least_divides : (s : System) (d : List ℕ) → LeastDenominator s d → DividesEvery s d
least_divides s d L M e X c D = L.divides M e X c D.canonical D.clears

-- "Its solution solves the system, and the denominator it states is that solution's own and divides the denominator of every
-- rational solution"
pub record SolutionSays (s : System) (d : List ℕ) (N : List (List ℕ)) : Type 0 where
  pub solves : RationalSolution s N d
  pub own : Denominator s.modulus N d d
  pub divides : DividesEvery s d

-- "or, on a card of absence, no rational solution exists"
unfoldable pub Says : System → Certificate → Type 0
Says s (solution d N w Z) = SolutionSays s d N
Says s (absence q) = (M : List (List ℕ)) (e : List ℕ) → ¬ RationalSolution s M e

pub true_says : (s : System) (c : Certificate) → True s c → Says s c
unfolding True Says
true_says s (solution d N w Z) t = record { solves = t.solves; own = t.denominator; divides = least_divides s d t.least }
true_says s (absence q) t = t

-- certificates of the same kind, and the same denominator
unfoldable pub Agree : Certificate → Certificate → Type 0
Agree (solution d N w Z) (solution c M v Y) = d ≡ c
Agree (solution d N w Z) (absence q) = ⊥
Agree (absence q) (solution d N w Z) = ⊥
Agree (absence q) (absence r) = Unit {0}

-- no system has true certificates of both kinds, and it has one denominator
pub true_agree : (limits : Limits) (s : System) → SystemWithin limits s → (c e : Certificate) → True s c → True s e → Agree c e
unfolding True Agree
true_agree limits s h (solution d N w Z) (solution c M v Y) t u = least_unique s (proper limits s h) d c t.least u.least
true_agree limits s h (solution d N w Z) (absence q) t u = u N d t.solves
true_agree limits s h (absence q) (solution d N w Z) t u = t N d u.solves
true_agree limits s h (absence q) (absence r) t u = tt

pub same_agree : (limits : Limits) {s t : System} → t ≡ s → SystemWithin limits s → (c e : Certificate) → True s c → True t e
    → Agree c e
same_agree limits {s} same h c e x y = true_agree limits s h c e x (subst (λ u. True u e) same y)

pub agree_form : (c e : Certificate) → Agree c e → certificate_form c ≡ certificate_form e
unfolding Agree certificate_form
agree_form (solution d N w Z) (solution c M v Y) a = refl
agree_form (solution d N w Z) (absence q) a = absurd a
agree_form (absence q) (solution d N w Z) a = absurd a
agree_form (absence q) (absence r) a = refl

-- the head word says the kind
pub head_of : (c : Certificate) → get_or (certificate_words c) 0 0 ≡ form_word (certificate_form c)
unfolding certificate_words framed_words
head_of c = refl

-- what the conditions hold of tells the truth
pub certified_true : (limits : Limits) (s : System) → SystemWithin limits s → (c : Certificate)
    → CertificateWithin limits (shape s) c
    → Certified s c → True s c
certified_true limits s h c k r = right_true limits s h c k ((within_certified limits s h c k).1 r)

module _ (limits : Limits) (fit : LimitsFit limits) where
  -- "once the check accepts it for a sheet, it tells the truth"
  pub accepted_says : (k : ℕ) (ws cs : List ℕ) → verdict limits k ws cs ≡ accepted tt
      → (a : AcceptedWords limits k ws cs) × Says a.system a.certificate
  accepted_says k ws cs e =
      let a = words_of_accepted limits fit k ws cs e in
      (a, true_says a.system a.certificate (words_true limits fit k a))

  -- Two lines with one system, of one sheet or of two: "agree in p, A and one line's right side"
  module _ (k j : ℕ) (ws vs : List ℕ) (same : read_line limits k ws ≡ read_line limits j vs) where
    same_line : {s t : System} → LineIn limits k s ws → LineIn limits j t vs → t ≡ s
    same_line h l =
        let e = line_read_of_written limits fit k ws h in
        let f = line_read_of_written limits fit j vs l in
        cc

    -- they have no accepted certificates of both kinds, and one denominator
    module _ (cs es : List ℕ) where
      pub lines_agree : (a : AcceptedWords limits k ws cs) (b : AcceptedWords limits j vs es)
          → Agree a.certificate b.certificate
      lines_agree a b =
          same_agree limits (same_line a.system_words b.system_words) (line_in_within limits fit k ws a.system_words)
          a.certificate b.certificate (words_true limits fit k a) (words_true limits fit j b)

      pub line_verdicts_agree : verdict limits k ws cs ≡ accepted tt → verdict limits j vs es ≡ accepted tt
          → (a : AcceptedWords limits k ws cs) × (b : AcceptedWords limits j vs es) × Agree a.certificate b.certificate
      line_verdicts_agree e f =
          let a = words_of_accepted limits fit k ws cs e in
          let b = words_of_accepted limits fit j vs es f in
          (a, b, lines_agree a b)

      -- on the words: their heads are the same
      pub line_same_head : verdict limits k ws cs ≡ accepted tt → verdict limits j vs es ≡ accepted tt → get_or cs 0 0 ≡ get_or es 0 0
      line_same_head e f =
          let t = line_verdicts_agree e f in
          let c = t.0.certificate in
          let u = t.1.certificate in
          ap (λ us. get_or us 0 0) t.0.certificate_words_lem ∙ head_of c ∙ ap form_word (agree_form c u t.2) ∙ sym (head_of u)
          ∙ ap (λ us. get_or us 0 0) (sym t.1.certificate_words_lem)

  -- "No sheet can have accepted cards of both kinds", "meant for each right side that the sheet has, by itself"
  module _ (k : ℕ) (ws cs es : List ℕ) where
    pub words_agree : (a : AcceptedWords limits k ws cs) (b : AcceptedWords limits k ws es)
        → Agree a.certificate b.certificate
    words_agree = lines_agree k k ws ws refl cs es

    pub verdicts_agree : verdict limits k ws cs ≡ accepted tt → verdict limits k ws es ≡ accepted tt
        → (a : AcceptedWords limits k ws cs) × (b : AcceptedWords limits k ws es) × Agree a.certificate b.certificate
    verdicts_agree = line_verdicts_agree k k ws ws refl cs es

    pub same_head : verdict limits k ws cs ≡ accepted tt → verdict limits k ws es ≡ accepted tt → get_or cs 0 0 ≡ get_or es 0 0
    same_head = line_same_head k k ws ws refl cs es
