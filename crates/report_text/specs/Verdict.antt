-- The verdict as a line.
use Rattle.std.specs.Prelude.{ℕ, ◌≡◌, List}
use Rattle.std.proofs.Common.{subst}
use Rattle.words.specs.Outcome.{Outcome}
use Rattle.words.specs.Outcome.Outcome.{accepted, refused}
use Rattle.report_text.specs.Ascii.{ascii}
use Rattle.report_text.specs.Text.{report_text}
use Rattle.report_text.specs.Written.{Written}

-- a refusal as the report has it
unfoldable pub verdict_line : Outcome (Unit {0}) → List ℕ
verdict_line (accepted _) = ascii "accepted\n"
verdict_line (refused number place) = report_text (refused number place)

-- equal verdicts have one line
pub same_line : {o o' : Outcome (Unit {0})} {before after : List ℕ} {n : ℕ} → o ≡ o' → Written (verdict_line o) before after n
    → Written (verdict_line o') before after n
same_line {before = before} {after} {n} e written = subst (λ o. Written (verdict_line o) before after n) e written
