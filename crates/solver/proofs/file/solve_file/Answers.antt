-- Number 10, or what the words of the bytes give.
use Prim.Native.Nat.{ℕ, ◌*◌}
use mathlib.Core.Path.{refl, sym, subst}
use native.Mathlib.Omega.{arith}
use lib.ListN.{length}
use Rattle.std.proofs.lemmas.Result.{err_from_is_err_and}
use Rattle.words.specs.Limits.{office, longest_certificate}
use Rattle.words.specs.Bytes.{word_bytes}
use Rattle.answers.specs.Answer.{counted_outcome}
use Rattle.files.specs.OpeningLaws.{line_file_refused, line_file_read}
use Rattle.solver.specs.Solving.{with_room, certificate_bytes, SolvesOr}
use Rattle.solver.proofs.Reading.{solves_refused}
use Rattle.solver.proofs.file.solve_file.Goals as goal

-- words of the longest certificate
abbrev longest : ℕ
longest = longest_certificate office

pub returns-in_err-count : goal.returns-in_err-count
returns-in_err-count c =
    let lent = c.args.bytes.now in
    let p = err_from_is_err_and c.from_residual.result c.from_residual.ensures.1 in
    rw (p.1, p.2)
    (solves_refused (word_bytes * longest) certificate_bytes lent lent _ _
    (line_file_refused office c.in_err-count.ensures _ refl) refl refl)

pub returns : goal.returns
returns c =
    let lent = c.args.bytes.now in
    let solved = c.solve_to_bytes in
    subst (λ o. SolvesOr office certificate_bytes (with_room (word_bytes * longest) (length lent) o) lent solved.new.bytes
    (counted_outcome solved.result)) (sym (line_file_read office c.in_ok-count.ensures _ (omega arith) refl)) solved.ensures
