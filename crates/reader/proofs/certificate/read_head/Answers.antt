-- `reader::certificate::read_head` meets its contract: each answer is what the definition gives at that test.
use Rattle.std.proofs.Common.{sym, arith}
use Rattle.reader.proofs.CertificateHead.{head_missing, head_kind, head_solution, head_absence, head_form}
use Rattle.reader.proofs.certificate.read_head.Goals as goal

pub returns-in_default : goal.returns-in_default
returns-in_default c = sym (head_missing _ c.in_default.ensures.item.3)

pub returns-then-kind_of-ne5 : goal.returns-then-kind_of-ne5
returns-then-kind_of-ne5 c =
    let w = c.in-Some.ensures.item.3 in
    sym (head_kind _ _ w.0 (w.1 0) (λ e. c.if-kind_of-ne5.true (cc)))

pub returns-in-1 : goal.returns-in-1
returns-in-1 c =
    let w = c.in-Some.ensures.item.3 in
    sym (head_solution _ _ w.0 (w.1 0) (cc) (cc))

pub returns-in-2 : goal.returns-in-2
returns-in-2 c =
    let w = c.in-Some.ensures.item.3 in
    sym (head_absence _ _ w.0 (w.1 0) (cc) (λ e. omega arith) (cc))

pub returns-in_default-payload_of : goal.returns-in_default-payload_of
returns-in_default-payload_of c =
    let w = c.in-Some.ensures.item.3 in
    sym (head_form _ _ w.0 (w.1 0) (cc) (λ e. grind arith) (λ e. grind arith))
