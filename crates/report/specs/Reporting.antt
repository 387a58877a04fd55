-- The report of a sheet's file (document 01, "The report"), for every list of bytes and whatever bytes are lent for it.
use Rattle.std.specs.Prelude.{ℕ, ◌≡◌, Bool, true, false, List, length, ltb}
use Rattle.words.specs.Limits.{Limits}
use Rattle.words.specs.Outcome.{Outcome}
use Rattle.words.specs.Outcome.Outcome.{accepted, refused}
use Rattle.words.specs.System.{System}
use Rattle.words.specs.Bytes.{read_line_file}
use Rattle.truth.specs.Solution.{Answer, Answers}
use Rattle.report_text.specs.Text.{report_text}
use Rattle.report_text.specs.Longest.{report_space}
use Rattle.report_text.specs.Written.{Written}

-- what is reported of what was read: "the kind (solution or none), the coefficients of d lowest first" and, by document 02, item
-- 2, ""feedback", that degree, "delay", the number of factors", where kind and d are the answer to the system; "for a refusal
-- "refused", number, "at", place"
unfoldable pub Reports : Outcome System → List ℕ → Type 0
Reports (refused number place) text = text ≡ report_text (refused number place)
Reports (accepted s) text = (a : Answer) × Answers s a × (text ≡ report_text (accepted a))

-- "reads a sheet from standard input and prints three lines": from the bytes of the file to those of the report. Of the right sides
-- "the report uses the first" (document 02, item 1), which no sheet lacks (`first_of_file`).
abbrev pub ReportOf : Limits → List ℕ → List ℕ → Type 0
ReportOf limits file text = Reports (read_line_file limits 0 file) text

-- a report written over the first of the lent bytes; those behind it stay
pub record ReportGiven (read : Outcome System) (entry exit : List ℕ) (count : ℕ) : Type 0 where
  pub text : List ℕ
  pub reports : Reports read text
  pub written : Written text entry exit count

-- where too few bytes are lent for every report, none is written, and no lent byte changes
unfoldable pub GivenUnless : Bool → Outcome System → (entry exit : List ℕ) → ℕ → Type 0
GivenUnless true read entry exit count = (count ≡ 0) × (exit ≡ entry)
GivenUnless false read entry exit count = ReportGiven read entry exit count

-- `report_space`, 1,024 bytes, suffices (`report_fits`): the bytes of a sheet's file, the lent bytes before and after, and the
-- number of the report's bytes
abbrev pub ReportsFile : Limits → List ℕ → (entry exit : List ℕ) → ℕ → Type 0
ReportsFile limits file entry exit count =
    GivenUnless (ltb (length entry) report_space) (read_line_file limits 0 file) entry exit count
