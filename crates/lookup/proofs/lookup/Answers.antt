-- `lookup::lookup` meets its contract: what was found is that part of the words.
use native.Mathlib.Omega.{arith}
use Rattle.limits.specs.Value.{limits_of}
use Rattle.lookup.specs.Answer.{of_asked}
use Rattle.lookup.proofs.Findings.{found_cut, found_place, part_address}
use borrow.Author.Rules.{rules}
use Rattle.lookup.proofs.lookup.Goals as goal

pub offset_bounds-words-from : goal.offset_bounds-words-from
offset_bounds-words-from c =
    let a = c.args in
    let h = found_cut (limits_of a.limits) a.system.now a.certificate.now (of_asked a.of) a.number c.in-Ok.from c.in-Ok.to
    c.in-Ok.ensures c.words_on-words.result.now c.words_on-words.ensures.0 in
    search rules

pub slice_bounds-result-end : goal.slice_bounds-result-end
slice_bounds-result-end c =
    let a = c.args in
    let h = found_cut (limits_of a.limits) a.system.now a.certificate.now (of_asked a.of) a.number c.in-Ok.from c.in-Ok.to
    c.in-Ok.ensures c.words_on-words.result.now c.words_on-words.ensures.0 in
    search rules

pub returns-in-Ok : goal.returns-in-Ok
returns-in-Ok c =
    let a = c.args in
    let h = found_cut (limits_of a.limits) a.system.now a.certificate.now (of_asked a.of) a.number c.in-Ok.from c.in-Ok.to
    c.in-Ok.ensures c.words_on-words.result.now c.words_on-words.ensures.0 in
    let b = found_place (limits_of a.limits) a.system.now a.certificate.now (of_asked a.of) a.number c.in-Ok.from c.in-Ok.to
    c.in-Ok.ensures c.words_on-words.result.now c.words_on-words.ensures.0 in
    record { same_words = h.2; same_place = part_address _ c.words_on-words.ensures.1 (omega (arith, b)) }
