-- First the polynomials, then the room, then the words.
use Rattle.std.proofs.Common.{rules, arith}
use Rattle.writer.proofs.Answers.{values_refused, values_writable, values_short, values_words}
use Rattle.writer.proofs.values.write_values.Goals as goal

pub returns-in_err-try_polynomials : goal.returns-in_err-try_polynomials
returns-in_err-try_polynomials c =
    let w = values_refused c.args.polynomials.format _ _ _ c.args.words.now c.in_err-try_polynomials.field-0.0
    c.in_err-try_polynomials.ensures in
    search rules

pub returns-then-words-polynomials : goal.returns-then-words-polynomials
returns-then-words-polynomials c = values_short _ _ _ _ _ c.in_ok-try_polynomials.ensures c.if-words-polynomials.true

pub write_framed-requires : goal.write_framed-requires
write_framed-requires c = (values_writable _ _ _ _ c.in_ok-try_polynomials.ensures c.requires.0, omega arith)

pub returns : goal.returns
returns c = values_words _ _ _ _ _ c.in_ok-try_polynomials.ensures c.if-words-polynomials.false _ _ c.write_framed.ensures
