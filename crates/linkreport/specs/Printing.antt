-- What is handed to standard output.
use Rattle.std.specs.Prelude.{ℕ, ◌≡◌, List, Result, Ok, Err, take}
use Rattle.std.specs.declared.io.Error.{Error}
use Rattle.words.specs.Limits.{office}
use Rattle.words.specs.Bytes.{read_line_file}
use Rattle.report.specs.Reporting.{ReportGiven}

-- the report of the bytes read; nothing where they could not be read, which is no refusal
unfoldable pub Prints : Result ℕ Error → (file entry exit : List ℕ) → ℕ → Type 0
Prints (Ok n) file entry exit count = ReportGiven (read_line_file office 0 (take n file)) entry exit count
Prints (Err reason) file entry exit count = (count ≡ 0) × (exit ≡ entry)
