-- The reader's refusals, 40 the last of them, then 11; else what `solve_read` gives (`Reading`).
use Prim.Native.Nat.{ℕ}
use mathlib.Core.Path.{refl}
use native.Mathlib.Omega.{arith}
use Rattle.std.proofs.lemmas.Result.{err_from_is_err_and}
use Rattle.words.specs.Limits.{office, longest_certificate}
use Rattle.words.specs.Certificate.{certificate_words}
use Rattle.solver.proofs.Reading.{was_read, reading_refused, solves_refused, solves_short, solves_given}
use Rattle.solver.proofs.solve.Goals as goal

-- words of the longest certificate
abbrev longest : ℕ
longest = longest_certificate office

pub returns-in_err-shape : goal.returns-in_err-shape
returns-in_err-shape c =
    let lent = c.args.words.now in
    let p = err_from_is_err_and c.from_residual.result c.from_residual.ensures.1 in
    rw (p.1, p.2)
    (solves_refused longest certificate_words lent lent _ _ (reading_refused _ _ _ c.limits.ensures c.in_err-shape.ensures refl)
    refl refl)

pub returns-then-words-lt-CERTIFICATE_WORDS : goal.returns-then-words-lt-CERTIFICATE_WORDS
returns-then-words-lt-CERTIFICATE_WORDS c =
    let lent = c.args.words.now in
    let R = was_read _ _ _ c.limits.ensures c.in_ok-shape.ensures refl in
    solves_short longest certificate_words lent lent _ _ R.read c.if-words-lt-CERTIFICATE_WORDS.true refl refl

pub returns : goal.returns
returns c =
    let R = was_read _ _ _ c.limits.ensures c.in_ok-shape.ensures refl in
    solves_given longest certificate_words _ _ _ _ R.read (omega (arith, c.if-words-lt-CERTIFICATE_WORDS.false)) _ refl
    (c.solve_read.ensures R.system R.read)
