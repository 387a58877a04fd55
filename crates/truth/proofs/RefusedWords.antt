-- The check's refusals of words, each under its condition only (demand 1): those of the system's words, then 40, then those of the
-- certificate's, then, of written forms, the first of 31 to 36 that the values of the line break.
use Rattle.std.specs.Prelude.{ℕ, ◌≡◌, ◌↔◌, List}
use Rattle.words.specs.Limits.{Limits}
use Rattle.words.specs.LimitsLaws.{LimitsFit}
use Rattle.words.specs.Outcome.Outcome.{refused}
use Rattle.words.specs.System.{shape}
use Rattle.words.proofs.LineLaws.{line_written_of_read, line_in_within}
use Rattle.words.proofs.CertificateLaws.{certificate_written_of_read}
use Rattle.words.specs.Rows.{RefusesBy, value_rows, check_rows}
use Rattle.words.specs.Pair.{PairRefused, one_line}
use Rattle.words.proofs.PairLaws.{pair_refused_iff, pair_rows}
use Rattle.words.proofs.SourceLaws.{line_laws, line_rows_lem}
use Rattle.truth.specs.Verdict.{certificate_verdict, verdict}
use Rattle.truth.specs.TurnedBack.{Fault}
use Rattle.truth.proofs.TurnedBackLaws.{refused_iff_fault, fault_rows}

module _ (limits : Limits) (fit : LimitsFit limits) (k : ℕ) (ws cs : List ℕ) where
  pub words_refused_iff : (number place : ℕ) → (verdict limits k ws cs ≡ refused number place)
      ↔ PairRefused limits (one_line limits k) Fault ws cs number place
  unfolding verdict
  words_refused_iff =
      pair_refused_iff limits (one_line limits k) certificate_verdict ws cs fit (line_laws limits fit k) Fault
      (λ s h. refused_iff_fault limits s (line_in_within limits fit k ws h))

  -- 1 to 9, 40, 21, 24 to 29, 31 to 36, and their places
  pub words_rows : RefusesBy (check_rows ws cs) (verdict limits k ws cs)
  unfolding verdict
  words_rows = pair_rows limits (one_line limits k) certificate_verdict ws cs (line_rows_lem limits k) value_rows (λ s r c q.
      let system = line_in_within limits fit k ws (line_written_of_read limits fit k ws r) in
      let certificate = (certificate_written_of_read limits (shape s) cs c q).1 in
      record {
        in_rows = λ number place e. fault_rows s c number place ((refused_iff_fault limits s system c certificate number place).0 e);
      })
