-- What is handed to standard output, by what reading gave.
use Rattle.std.specs.Prelude.{ℕ, ◌≤◌, ◌≡◌, List, Result, Ok, Err, take, drop}
use Rattle.std.specs.declared.io.Error.{Error}
use Rattle.std.proofs.Common.{arith, sym, le-ltb}
use Rattle.std.proofs.Math.Path.{ap, subst}
use Rattle.std.proofs.Math.ListN.{length, length-append}
use Rattle.words.specs.Limits.{office}
use Rattle.words.specs.LimitsLaws.{office_fits}
use Rattle.words.specs.Outcome.Outcome.{accepted}
use Rattle.words.specs.System.{System}
use Rattle.words.specs.Bytes.{read_line_file}
use Rattle.report_text.specs.Longest.{report_space}
use Rattle.report.specs.Reporting.{GivenUnless, ReportsFile}
use Rattle.report.specs.ReportingLaws.{given_text}
use Rattle.report.specs.LeastReported.{ReportSays}
use Rattle.report.proofs.LeastReportedLaws.{file_says}
use Rattle.linkreport.specs.Printing.{Prints}

module _ (file entry exit : List ℕ) (count : ℕ) where
  -- where bytes enough are lent, there is a report
  pub prints_report : {i : Result ℕ Error} {n : ℕ} → i ≡ Ok n → report_space ≤ length entry
      → ReportsFile office (take n file) entry exit count → Prints i file entry exit count
  unfolding Prints GivenUnless
  prints_report {n = n} e room report =
      subst (λ read. Prints read file entry exit count) (sym e)
      (subst
      (λ b. GivenUnless b (read_line_file office 0 (take n file)) entry exit count)
      (le-ltb (length entry) report_space room)
      report)

  pub prints_nothing : {i : Result ℕ Error} {reason : _} → i ≡ Err reason → count ≡ 0 → exit ≡ entry → Prints i file entry exit count
  unfolding Prints
  prints_nothing e none same = subst (λ read. Prints read file entry exit count) (sym e) (none, same)

  -- what is printed is among the lent bytes
  pub prints_most : (i : Result ℕ Error) → Prints i file entry exit count → count ≤ length exit
  unfolding Prints
  prints_most (Ok n) given =
      let length_of = length-append given.text (drop (length given.text) entry) in
      omega (arith, given.written.count, ap length given.written.bytes, length_of)
  prints_most (Err reason) nothing = omega (arith, nothing.0)

  -- what is printed of bytes that read as a system: that there is no solution, or d, and a feedback and a delay of which no
  -- rational solution has less
  pub prints_least : (n : ℕ) → Prints (Ok n) file entry exit count → {s : System}
      → read_line_file office 0 (take n file) ≡ accepted s
      → ReportSays s (take count exit)
  unfolding Prints
  prints_least n given read = file_says office office_fits (take n file) read (take count exit) (given_text given)
