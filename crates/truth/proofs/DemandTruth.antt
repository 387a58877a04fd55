-- Demand 3's truth, proved of words: whatever the words are and however they came about, an accepted certificate tells the truth.
use Rattle.std.specs.Prelude.{ℕ, ◌≡◌, refl, List}
use Rattle.std.proofs.Common.{sym, ◌∙◌}
use Rattle.words.specs.Limits.{Limits}
use Rattle.words.specs.LimitsLaws.{LimitsFit}
use Rattle.words.specs.Outcome.Outcome.{accepted}
use Rattle.words.specs.System.{System, SystemWithin, shape}
use Rattle.words.specs.Systems.{read_line}
use Rattle.words.proofs.LineLaws.{line_written_of_read, line_in_within}
use Rattle.words.specs.Certificate.{Certificate, CertificateWithin, certificate_words, read_certificate}
use Rattle.words.proofs.CertificateLaws.{certificate_written_of_read}
use Rattle.words.specs.Certificate.Certificate.{solution, absence}
use Rattle.words.specs.Pair.{WrittenPair, one_line}
use Rattle.truth.specs.Right.{Right}
use Rattle.truth.specs.Verdict.{verdict}
use Rattle.truth.proofs.Truth.{right_solves, right_denominator, right_least, right_absent}
use Rattle.truth.proofs.Accepted.{AcceptedWords, words_of_accepted, verdict_of_written, verdict_right}
use Rattle.truth.proofs.Accepted.{proper, proper_solution, all_canonical}
use Rattle.truth.specs.Demand.{True}

module _ (limits : Limits) where
  pub right_true : (s : System) → SystemWithin limits s → (c : Certificate) → CertificateWithin limits (shape s) c → Right s c
      → True s c
  unfolding True Right CertificateWithin
  right_true s h (solution d N w Z) k r =
      let P = proper_solution limits s d N w Z k in
      let H = proper limits s h in
      record { solves = right_solves s H P r; denominator = right_denominator s H P r; least = right_least s H P r }
  right_true s h (absence q) k r =
      right_absent s (proper limits s h) q (all_canonical s.modulus limits.certificate_coefficients q k.entries) r

  module _ (fit : LimitsFit limits) (k : ℕ) where
    -- what words of a right certificate say of their line
    pub words_true : {ws cs : List ℕ} (a : AcceptedWords limits k ws cs) → True a.system a.certificate
    words_true {ws} a =
        let h = line_in_within limits fit k ws a.system_words in
        right_true a.system h a.certificate a.certificate_within a.holds

    pub accepted_true : (ws cs : List ℕ) → verdict limits k ws cs ≡ accepted tt
        → (a : AcceptedWords limits k ws cs) × True a.system a.certificate
    accepted_true ws cs e = let a = words_of_accepted limits fit k ws cs e in (a, words_true a)

    -- so also of a system that is read as a line, and of a certificate whose written form reads back as itself
    pub verdict_true : (s : System) (c : Certificate) (ws : List ℕ) → read_line limits k ws ≡ accepted s
        → read_certificate limits (shape s) (certificate_words c) ≡ accepted c
        → verdict limits k ws (certificate_words c) ≡ accepted tt → True s c
    verdict_true s c ws e f g =
        let l = line_written_of_read limits fit k ws e in
        let h = line_in_within limits fit k ws l in
        let m = (certificate_written_of_read limits (shape s) (certificate_words c) c f).1 in
        let w : WrittenPair limits (one_line limits k) (λ s c. Unit {0}) ws (certificate_words c) = record {
          system = s;
          certificate = c;
          system_words = l;
          certificate_words_lem = refl;
          certificate_within = m;
          holds = tt;
        } in
        right_true s h c m (verdict_right limits fit s h c m (sym (verdict_of_written limits fit k w) ∙ g))
