-- The refusals of the check on files, each under its condition only (demand 1): 10 before all others, then those of the files'
-- words.
use Rattle.std.specs.Prelude.{ℕ, ◌≡◌, ◌↔◌, List}
use Rattle.words.specs.Limits.{Limits}
use Rattle.words.specs.LimitsLaws.{LimitsFit}
use Rattle.words.specs.Outcome.Outcome.{refused}
use Rattle.words.specs.Bytes.{words_of}
use Rattle.words.specs.TenFirst.{TenFirst}
use Rattle.words.proofs.RefusedLaws.{ten_first_iff}
use Rattle.words.specs.Rows.{RefusesBy, check_file_rows}
use Rattle.words.specs.RowLaws.{by_row}
use Rattle.words.specs.Pair.{PairRefused, one_line}
use Rattle.truth.specs.Verdict.{verdict}
use Rattle.truth.specs.TurnedBack.{Fault}
use Rattle.truth.proofs.RefusedWords.{words_refused_iff, words_rows}
use Rattle.files.specs.OpeningBoth.{files_broken}
use Rattle.verifier.specs.File.{file_verdict}

abbrev pub FilesRefused : Limits → (k : ℕ) → (f g : List ℕ) (number place : ℕ) → Type 0
FilesRefused limits k f g = TenFirst (files_broken limits f g) (PairRefused limits (one_line limits k) Fault (words_of f) (words_of g))

module _ (limits : Limits) (fit : LimitsFit limits) (k : ℕ) (f g : List ℕ) where
  pub files_refused_iff : (number place : ℕ) → (file_verdict limits k f g ≡ refused number place)
      ↔ FilesRefused limits k f g number place
  unfolding file_verdict
  files_refused_iff =
      ten_first_iff (files_broken limits f g) (verdict limits k (words_of f) (words_of g)) _
      (words_refused_iff limits fit k (words_of f) (words_of g))

  -- 10 at 0, or a row of the words
  pub files_rows : RefusesBy (check_file_rows (words_of f) (words_of g)) (file_verdict limits k f g)
  unfolding file_verdict
  files_rows = by_row (files_broken limits f g) 10 (words_rows limits fit k (words_of f) (words_of g))
