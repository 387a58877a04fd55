-- Counts and places of the answers to files are small: a certificate's file has at most the bytes of the longest certificate, and a
-- refusal's place is at most the number of words of the longest system.
use Rattle.std.specs.Prelude.{ℕ, ◌*◌, ◌≤◌, ◌≡◌, refl, Bool, true, false, List, length, ltb}
use Rattle.std.proofs.Math.Path.{sym, subst}
use Rattle.std.proofs.Common.{◌∙◌, arith}
use Rattle.words.specs.Limits.{Limits, longest_system, longest_certificate}
use Rattle.words.specs.LimitsLaws.{LimitsFit}
use Rattle.words.specs.Outcome.{Outcome, refuse}
use Rattle.words.specs.Outcome.Outcome.{accepted, refused}
use Rattle.words.specs.OutcomeLaws.{refused_accepted}
use Rattle.words.specs.System.{System, shape}
use Rattle.words.specs.Bytes.{read_line_file, word_bytes}
use Rattle.words.proofs.BytesLaws.{length_bytes_of}
use Rattle.words.proofs.LineFileLaws.{line_file_within, line_file_place}
use Rattle.words.specs.Certificate.{certificate_words}
use Rattle.words.proofs.CertificateLaws.{certificate_words_most}
use Rattle.answers.specs.Packed.{AnswerMost}
use Rattle.solver.specs.Solving.{with_room, file_to_solve, certificate_bytes, GivesRight, SolvesOr, SolvesFile}
use Rattle.solver.specs.SolvingLaws.{room_read}

-- 11 is at 0
room_place : (most longest lent : ℕ) (o : Outcome System)
    → ((number place : ℕ) → o ≡ refused number place → place ≤ most)
    → (number place : ℕ) → with_room longest lent o ≡ refused number place → place ≤ most
room_place most longest lent (refused n p) h number place e = h number place e
room_place most longest lent (accepted s) h number place e = by_room (ltb lent longest) e
  where
    by_room : (t : Bool) → refuse t 11 0 (accepted s) ≡ refused number place → place ≤ most
    by_room true e = let same : place ≡ 0 = cc in omega arith
    by_room false e = absurd (refused_accepted (sym e))

module _ (limits : Limits) (fit : LimitsFit limits) (k : ℕ) (file entry exit : List ℕ) (answer : Outcome ℕ) where
  gives_most : {s : System} {count : ℕ} → read_line_file limits k file ≡ accepted s
      → GivesRight limits certificate_bytes s entry exit count → count ≤ word_bytes * longest_certificate limits
  unfolding certificate_bytes
  gives_most {s} e G =
      let c = G.certificate in
      let words = certificate_words_most limits (shape s) (line_file_within limits k fit s file e).shape c G.within in
      omega (arith, G.same_count, length_bytes_of (certificate_words c), words)

  by_system : (o : Outcome System) → file_to_solve limits k (length entry) file ≡ o
      → SolvesOr limits certificate_bytes o entry exit answer
      → AnswerMost (word_bytes * longest_certificate limits) (longest_system limits) answer
  unfolding SolvesOr
  by_system (refused number place) e h =
      let most = room_place (longest_system limits) (word_bytes * longest_certificate limits) (length entry)
      (read_line_file limits k file)
      (λ _ _ r. line_file_place limits k fit file r) number place e in
      record {
        counts = λ n a. absurd (refused_accepted (sym h.0 ∙ a));
        places = λ number' n a.
            let told = sym h.0 ∙ a in
            let same : place ≡ n = cc in
            subst (λ i. i ≤ longest_system limits) same most;
      }
  by_system (accepted s) e h =
      let read = room_read (word_bytes * longest_certificate limits) (length entry) (read_line_file limits k file) e in
      let most = gives_most read h.2.given in
      record {
        counts = λ n a.
            let told = sym h.1 ∙ a in
            let same : h.0 ≡ n = cc in
            subst (λ i. i ≤ word_bytes * longest_certificate limits) same most;
        places = λ number n a. absurd (refused_accepted (sym a ∙ h.1));
      }

  pub solves_file_most : SolvesFile limits k file entry exit answer
      → AnswerMost (word_bytes * longest_certificate limits) (longest_system limits) answer
  solves_file_most = by_system (file_to_solve limits k (length entry) file) refl
