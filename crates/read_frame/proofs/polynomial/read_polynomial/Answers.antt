-- `read_frame::polynomial::read_polynomial` meets its contract: each answer is what the definition gives at that test.
use Rattle.std.proofs.Common.{ℕ, length, drop, sym, ap, ◌∙◌, arith}
use Rattle.words.specs.Word.{payload}
use Rattle.words.specs.Reading.{words_used}
use Rattle.words.specs.Polynomial.{coefficients_from}
use Rattle.read_frame.proofs.StartWord.{start_missing, start_kind, start_many, start_right}
use Rattle.read_frame.proofs.polynomial.read_polynomial.Goals as goal

pub returns-in_default : goal.returns-in_default
returns-in_default c = sym (start_missing _ _ _ c.in_default.ensures.item.3)

pub returns-then-kind_of-ne2 : goal.returns-then-kind_of-ne2
returns-then-kind_of-ne2 c =
    let w = c.in-Some.ensures.item.3 in
    let r = w.1 0 in
    sym (start_kind _ _ _ w.0 (λ e. c.if-kind_of-ne2.true (cc)))

pub returns-then-from-count : goal.returns-then-from-count
returns-then-from-count c =
    let w = c.in-Some.ensures.item.3 in
    let r = w.1 0 in
    sym (start_many _ _ _ w.0 (cc) (omega arith))

pub returns : goal.returns
returns c =
    let w = c.in-Some.ensures.item.3 in
    let r = w.1 0 in
    let ws = c.args.words.now in
    c.read_coefficients.ensures
    ∙ ap (λ (n : ℕ). words_used (length ws) (coefficients_from c.args.p n (drop 1 ws))) (c.payload_of-count.ensures ∙ ap payload r)
    ∙ ap (words_used (length ws)) (sym (start_right _ c.args.limit _ w.0 (cc) (omega arith)))
