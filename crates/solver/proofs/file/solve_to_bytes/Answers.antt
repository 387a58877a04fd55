-- What `solve` gave on words of its own is written as bytes (`FileWriting`).
use Prim.Native.Nat.{ℕ, ◌*◌}
use mathlib.Core.Path.{◌≡◌, refl, sym}
use native.Mathlib.Omega.{arith}
use lib.ListN.{length, replicate}
use lib.Seq.{length-take-le}
use borrow.Author.Rules.{rules}
use Rattle.std.proofs.lemmas.Result.{err_from_is_err_and}
use Rattle.words.specs.Limits.{office, longest_certificate}
use Rattle.words.specs.Bytes.{word_bytes}
use Rattle.files.specs.FileBytesLaws.{written_count, written_all}
use Rattle.solver.specs.Solving.{certificate_bytes}
use Rattle.solver.specs.SolvingLaws.{gives_fits}
use Rattle.solver.proofs.Reading.{solves_refused, solves_short, solves_given}
use Rattle.solver.proofs.FileWriting.{gives_bytes, was_solved, was_refused}
use Rattle.solver.proofs.file.solve_to_bytes.Goals as goal

-- words of the longest certificate
abbrev longest : ℕ
longest = longest_certificate office

pub returns-in_err-count : goal.returns-in_err-count
returns-in_err-count c =
    let lent = c.args.bytes.now in
    let p = err_from_is_err_and c.from_residual.result c.from_residual.ensures.1 in
    rw (p.1, p.2)
    (solves_refused (word_bytes * longest) certificate_bytes lent lent _ _
    (was_refused _ c.args.system.now (replicate longest 0) _ _ c.in_err-count.ensures (omega arith) refl) refl refl)

pub returns-then-bytes-lt-CERTIFICATE_BYTES : goal.returns-then-bytes-lt-CERTIFICATE_BYTES
returns-then-bytes-lt-CERTIFICATE_BYTES c =
    let lent = c.args.bytes.now in
    let given = was_solved _ c.args.system.now (replicate longest 0) _ _ c.in_ok-count.ensures refl in
    solves_short (word_bytes * longest) certificate_bytes lent lent _ _ given.1 c.if-bytes-lt-CERTIFICATE_BYTES.true refl refl

pub slice_bounds-words-end : goal.slice_bounds-words-end
slice_bounds-words-end c = omega (arith, gives_fits (was_solved _ c.args.system.now (replicate longest 0) _ _ c.in_ok-count.ensures refl).2.given)

pub slice_bounds-write_bytes-end : goal.slice_bounds-write_bytes-end
slice_bounds-write_bytes-end c =
    sym (length-take-le _ _ (gives_fits (was_solved _ c.args.system.now (replicate longest 0) _ _ c.in_ok-count.ensures refl).2.given))

pub returns : goal.returns
returns c =
    let given = was_solved _ c.args.system.now (replicate longest 0) _ _ c.in_ok-count.ensures refl in
    let few = gives_fits given.2.given in
    let room : length c.solve.new.words ≡ longest = search rules in
    let short = length-take-le _ c.solve.new.words few in
    let written = c.write_bytes.ensures in
    solves_given (word_bytes * longest) certificate_bytes _ _ _ _ given.1
    (omega (arith, c.if-bytes-lt-CERTIFICATE_BYTES.false)) _ refl
    (gives_bytes given.2 _ _ (written_count written (omega arith)) (written_all written (omega arith)))
