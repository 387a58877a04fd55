-- The verdict by the reading of the line. Lines that hold one system, of one sheet or of two:
-- "two accepted sheets that agree in p, A and one line's right side", and "its single sheet" (document 02, item 1). They are read
-- alike, so that the check says the same of them.
use Rattle.std.specs.Prelude.{ℕ, ◌≤◌, ◌≡◌, refl, List}
use Rattle.std.proofs.Math.Path.{sym, ap}
use Rattle.std.proofs.Common.{◌∙◌, arith}
use Rattle.words.specs.Limits.{Limits}
use Rattle.words.specs.LimitsLaws.{LimitsFit}
use Rattle.words.specs.Outcome.{Outcome, followed_by}
use Rattle.words.specs.Outcome.Outcome.{accepted}
use Rattle.words.specs.System.{System, SystemWithin, shape}
use Rattle.words.specs.Systems.{systems_words, single, read_line}
use Rattle.words.specs.Line.{LineIn}
use Rattle.words.proofs.LineLaws.{line_read_of_written, line_in_within, line_single, single_within}
use Rattle.words.specs.Certificate.{Certificate, read_certificate}
use Rattle.truth.specs.Verdict.{certificate_verdict, verdict}

module _ (limits : Limits) where
  -- what comes behind the line
  abbrev behind : List ℕ → System → Outcome (Unit {0})
  behind cs s = followed_by (read_certificate limits (shape s) cs) (certificate_verdict s)

  module _ (k : ℕ) (ws cs : List ℕ) where
    -- behind the line's refusals comes what the reading of the certificate gives
    pub certificate_next : {s : System} {found : Outcome Certificate} → read_line limits k ws ≡ accepted s
        → read_certificate limits (shape s) cs ≡ found → verdict limits k ws cs ≡ followed_by found (certificate_verdict s)
    unfolding verdict
    certificate_next {s} e r = ap (λ o. followed_by o (behind cs)) e ∙ ap (λ o. followed_by o (certificate_verdict s)) r

  -- the written form of a system alone holds it, as its first line
  pub single_line : 1 ≤ limits.sides → (s : System) → SystemWithin limits s → LineIn limits 0 s (systems_words (single s))
  unfolding single
  single_line some s h = record {
    systems = single s;
    words = refl;
    within = single_within limits s h some;
    has = omega arith;
    is = sym (line_single limits s h);
  }

  -- the check looks at nothing but the line
  pub line_verdict : (k j : ℕ) (ws vs : List ℕ) → read_line limits k ws ≡ read_line limits j vs
      → (cs : List ℕ) → verdict limits k ws cs ≡ verdict limits j vs cs
  unfolding verdict
  line_verdict k j ws vs same cs = ap (λ o. followed_by o (behind cs)) same

  module _ (fit : LimitsFit limits) (k : ℕ) (ws : List ℕ) {s : System} (h : LineIn limits k s ws) where
    pub lines_same : (j : ℕ) (vs : List ℕ) → LineIn limits j s vs → read_line limits k ws ≡ read_line limits j vs
    lines_same j vs l = line_read_of_written limits fit k ws h ∙ sym (line_read_of_written limits fit j vs l)

    pub line_alone : read_line limits k ws ≡ read_line limits 0 (systems_words (single s))
    line_alone =
        let some : 1 ≤ limits.sides = omega (arith, h.has, h.within.head.sides.1) in
        lines_same 0 (systems_words (single s)) (single_line some s (line_in_within limits fit k ws h))

    pub verdict_alone : (cs : List ℕ) → verdict limits k ws cs ≡ verdict limits 0 (systems_words (single s)) cs
    verdict_alone = line_verdict k 0 ws (systems_words (single s)) line_alone
