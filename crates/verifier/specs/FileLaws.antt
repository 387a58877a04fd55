-- Places of what is said of two files: at most one more than the number of words of the longest certificate.
use Rattle.std.specs.Prelude.{ℕ, suc, ◌+◌, ◌*◌, ◌/◌, ◌≤◌, ◌≡◌, Bool, true, false, ◌||◌, List, length, ltb}
use Rattle.std.proofs.Math.Path.{refl}
use Rattle.std.proofs.Common.{◌∙◌, arith, ltb-false}
use Rattle.modular.specs.Bits.{most4}
use Rattle.words.specs.Limits.{Limits, longest_system, longest_certificate}
use Rattle.words.specs.LimitsLaws.{LimitsFit}
use Rattle.words.specs.Outcome.{refuse}
use Rattle.words.specs.Outcome.Outcome.{refused}
use Rattle.words.specs.Bytes.{words_of, broken, too_long, word_bytes}
use Rattle.words.proofs.BytesLaws.{length_words_of}
use Rattle.words.specs.Rows.{check_rows}
use Rattle.words.specs.RowLaws.{places_below, check_below}
use Rattle.truth.specs.Verdict.{verdict}
use Rattle.truth.proofs.RefusedWords.{words_rows}
use Rattle.truth.proofs.Prefix.{verdict_room}
use Rattle.files.specs.Opening.{first_words}
use Rattle.files.specs.OpeningLaws.{few_words}
use Rattle.answers.specs.Packed.{VerdictMost}
use Rattle.verifier.specs.File.{file_verdict}

-- files that pass have few words
passed_short : (b t : Bool) (most n : ℕ) → ltb (word_bytes * most) n ≡ t → b || t ≡ false → n / word_bytes ≤ most
passed_short true t most n e h = absurd (let z : ◌≡◌ {A = ℕ} 0 1 = cc in omega arith)
passed_short false true most n e h = absurd (let z : ◌≡◌ {A = ℕ} 0 1 = cc in omega arith)
passed_short false false most n e h = omega (arith, ltb-false (word_bytes * most) n e)

module _ (limits : Limits) (fit : LimitsFit limits) (k : ℕ) (system certificate : List ℕ) (b : ℕ)
    (longest_system_lem : longest_system limits ≤ b) (longest_certificate_lem : longest_certificate limits + 1 ≤ b)
    (heads : most4 ≤ b) where
  -- as many of the certificate's words as decide
  abbrev first_words_lem : List ℕ
  first_words_lem = first_words (longest_certificate limits + 1) (words_of certificate)

  by_tests : (x y : Bool) {number place : ℕ} → broken system || too_long limits system ≡ x
      → refuse (x || y) 10 0 (verdict limits k (words_of system) (words_of certificate)) ≡ refused number place → place ≤ b
  by_tests true y {place = place} long e = let same : place ≡ 0 = cc in omega arith
  by_tests false true {place = place} long e = let same : place ≡ 0 = cc in omega arith
  by_tests false false {number} {place} long words =
      let short = passed_short (broken system) (too_long limits system) (longest_system limits) (length system) refl long in
      let refused = verdict_room limits fit k (words_of system) (words_of certificate) (longest_certificate limits + 1) (omega arith)
      ∙ words in
      let few = few_words (longest_certificate limits + 1) (words_of certificate) in
      let below = places_below number place (suc b) (check_rows (words_of system) first_words_lem)
      (check_below (words_of system) first_words_lem (omega (arith, length_words_of system, short)) (omega arith) heads)
      ((words_rows limits fit k (words_of system) first_words_lem).in_rows number place refused) in
      omega arith

  pub file_verdict_most : VerdictMost b (file_verdict limits k system certificate)
  unfolding file_verdict
  file_verdict_most = record {
    places = λ number place e. by_tests (broken system || too_long limits system) (broken certificate) refl e;
  }
