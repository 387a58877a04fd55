-- What is looked at of a file decides: the verdict on it is that on the whole file, however long that is.
use Rattle.std.specs.Prelude.{ℕ, ◌+◌, ◌*◌, ◌/◌, ◌%◌, ◌≤◌, ◌<◌, min, ◌≡◌, Bool, not, ◌||◌, List, eqb, take, get_or}
use Rattle.std.proofs.Math.Decide.{dec_lt}
use native.Mathlib.Omega.{arith}
use Rattle.std.proofs.Math.Path.{refl, ap, ap₂}
use Rattle.std.proofs.Common.{sym, ◌∙◌, length-take-le, take_all, get_or-take, ext_get_or, lt-ltb, le-ltb}
use Rattle.std.proofs.Math.Bool.{true, false}
use Rattle.std.proofs.Math.ListN.{length}
use Rattle.words.specs.Limits.{office, longest_system, longest_certificate}
use Rattle.words.specs.LimitsLaws.{office_fits}
use Rattle.words.specs.Outcome.{refuse}
use Rattle.words.specs.Outcome.Outcome.{refused}
use Rattle.words.specs.Bytes.{words_of, broken, too_long, word_bytes}
use Rattle.words.proofs.BytesLaws.{length_words_of, words_of_at}
use Rattle.truth.specs.Verdict.{verdict}
use Rattle.truth.proofs.Prefix.{verdict_prefix}
use Rattle.verifier.specs.File.{file_verdict}
use Rattle.truth.proofs.Lines.{line_verdict}
use Rattle.files.specs.OpeningBoth.{files_broken}
use Rattle.streams.specs.Side.{most_side}
use Rattle.streams.specs.SideLaws.{capped_line}
use Rattle.streams.specs.Seen.{file_space, bytes_seen}

-- the words of a file's start are the first of its words
words_of_start : (k : ℕ) (bytes : List ℕ) → k ≤ length bytes → words_of (take k bytes) ≡ take (k / word_bytes) (words_of bytes)
words_of_start k bytes h = ext_get_or 0 (words_of (take k bytes)) (take (k / word_bytes) (words_of bytes)) (first ∙ sym second) each
  where
    first : length (words_of (take k bytes)) ≡ k / word_bytes
    first = length_words_of (take k bytes) ∙ ap (λ n. n / word_bytes) (length-take-le k bytes h)

    second : length (take (k / word_bytes) (words_of bytes)) ≡ k / word_bytes
    second = length-take-le (k / word_bytes) (words_of bytes) (omega (arith, length_words_of bytes))

    byte : (i : ℕ) → i < k → get_or (take k bytes) i 0 ≡ get_or bytes i 0
    byte i l = get_or-take k bytes i 0 l

    each : (i : ℕ) → i < length (words_of (take k bytes))
        → get_or (words_of (take k bytes)) i 0 ≡ get_or (take (k / word_bytes) (words_of bytes)) i 0
    each i l =
        words_of_at (take k bytes) i (omega (arith, length_words_of (take k bytes)))
        ∙ rw (
          byte (word_bytes * i) (omega (arith, first)),
          byte (word_bytes * i + 1) (omega (arith, first)),
          byte (word_bytes * i + 2) (omega (arith, first)),
          byte (word_bytes * i + 3) (omega (arith, first)),
        )
        refl
        ∙ sym (words_of_at bytes i (omega (arith, first)))
        ∙ sym (get_or-take (k / word_bytes) (words_of bytes) i 0 (omega (arith, first)))

-- what is looked at of a file
abbrev pub file_start : List ℕ → List ℕ
file_start file = take (bytes_seen (length file)) file

module _ (file : List ℕ) where
  start_short : length file < file_space → file_start file ≡ file
  start_short h =
      let all : bytes_seen (length file) ≡ length file = rw (lt-ltb (length file) file_space h) in
      ap (λ k. take k file) all ∙ take_all (length file) file (omega arith)

  module _ (long : file_space ≤ length file) where
    seen_long : bytes_seen (length file) ≡ word_bytes * (longest_certificate office + 1) + length file % word_bytes
    seen_long = rw (le-ltb (length file) file_space long)

    start_length : length (file_start file) ≡ word_bytes * (longest_certificate office + 1) + length file % word_bytes
    start_length = length-take-le (bytes_seen (length file)) file (omega (arith, seen_long)) ∙ seen_long

    start_broken : broken (file_start file) ≡ broken file
    start_broken =
        let same : length (file_start file) % word_bytes ≡ length file % word_bytes = omega (arith, start_length) in
        ap (λ n. not (eqb n 0)) same

    start_words : words_of (file_start file) ≡ take (longest_certificate office + 1) (words_of file)
    start_words =
        let words : bytes_seen (length file) / word_bytes ≡ longest_certificate office + 1 = omega (arith, seen_long) in
        words_of_start (bytes_seen (length file)) file (omega (arith, seen_long)) ∙ ap (λ k. take k (words_of file)) words

module _ (k : ℕ) (system certificate : List ℕ) where
  certificate_start : file_verdict office k system (file_start certificate) ≡ file_verdict office k system certificate
  unfolding file_verdict
  certificate_start = by (dec_lt (length certificate) file_space)
    where
      by : Dec (length certificate < file_space)
          → file_verdict office k system (file_start certificate) ≡ file_verdict office k system certificate
      by (yes h) = ap (file_verdict office k system) (start_short certificate h)
      by (no h) =
          let long : file_space ≤ length certificate = omega arith in
          ap₂ (λ b o. refuse ((broken system || too_long office system) || b) 10 0 o) (start_broken certificate long)
          (ap (verdict office k (words_of system)) (start_words certificate long)
          ∙ verdict_prefix office office_fits k (words_of system) (words_of certificate) (longest_certificate office + 1) (omega arith)
          (omega (arith, length_words_of certificate)))

  -- a system's file that is too long is 10 at 0
  too_long_lem : (file : List ℕ) → too_long office file ≡ true → file_verdict office k file certificate ≡ refused 10 0
  unfolding file_verdict
  too_long_lem file e =
      ap (λ t. refuse ((broken file || t) || broken certificate) 10 0 (verdict office k (words_of file) (words_of certificate))) e
      ∙ by (broken file)
    where
      by : (b : Bool)
          → refuse ((b || true) || broken certificate) 10 0 (verdict office k (words_of file) (words_of certificate)) ≡ refused 10 0
      by true = refl
      by false = refl

  system_start : file_verdict office k (file_start system) certificate ≡ file_verdict office k system certificate
  system_start = by (dec_lt (length system) file_space)
    where
      by : Dec (length system < file_space)
          → file_verdict office k (file_start system) certificate ≡ file_verdict office k system certificate
      by (yes h) = ap (λ s. file_verdict office k s certificate) (start_short system h)
      by (no h) =
          let long : file_space ≤ length system = omega arith in
          let limit = word_bytes * longest_system office in
          too_long_lem (file_start system) (lt-ltb limit (length (file_start system)) (omega (arith, start_length system long)))
          ∙ sym (too_long_lem system (lt-ltb limit (length system) (omega arith)))

-- the verdict on what is looked at is that on the files
pub verdict_seen : (k : ℕ) (system certificate : List ℕ)
    → file_verdict office k (file_start system) (file_start certificate) ≡ file_verdict office k system certificate
verdict_seen k system certificate = system_start k system (file_start certificate) ∙ certificate_start k system certificate

-- nor does it matter that right sides above the most that an argument is read as are taken for it
pub verdict_capped : (k : ℕ) (system certificate : List ℕ)
    → file_verdict office (min k most_side) system certificate ≡ file_verdict office k system certificate
unfolding file_verdict
verdict_capped k system certificate =
    ap (refuse (files_broken office system certificate) 10 0)
    (line_verdict office (min k most_side) k (words_of system) (words_of system) (capped_line k (words_of system))
    (words_of certificate))
