-- `read_frame::frame::read_end` meets its contract: each answer is what the definition gives at that test.
use Rattle.std.proofs.Common.{sym}
use Rattle.read_frame.proofs.EndWord.{end_missing, end_kind, end_payload, end_follows, end_right}
use Rattle.read_frame.proofs.frame.read_end.Goals as goal

pub returns-in_default : goal.returns-in_default
returns-in_default c = sym (end_missing _ _ c.requires c.in_default.ensures.lookup.3)

pub returns-then-kind_of-ne4 : goal.returns-then-kind_of-ne4
returns-then-kind_of-ne4 c =
    let w = c.in-Some.ensures.lookup.3 in
    sym (end_kind _ _ w.0 (λ e. c.if-kind_of-ne4.true (let r = w.1 0 in cc)))

pub returns-then-payload_of-place : goal.returns-then-payload_of-place
returns-then-payload_of-place c =
    let w = c.in-Some.ensures.lookup.3 in
    let r = w.1 0 in
    sym (end_payload _ _ w.0 (cc) (λ e. c.if-payload_of-place.true (cc)))

pub returns-then-place-words : goal.returns-then-place-words
returns-then-place-words c =
    let w = c.in-Some.ensures.lookup.3 in
    let r = w.1 0 in
    sym (end_follows _ _ w.0 (cc) (cc) c.if-place-words.true)

pub returns : goal.returns
returns c =
    let w = c.in-Some.ensures.lookup.3 in
    let r = w.1 0 in
    sym (end_right _ _ w.0 (cc) (cc) c.if-place-words.false)
