-- `reader::system::read_head` meets its contract: each answer is what the definition gives at that test.
use Rattle.std.proofs.Common.{sym, arith}
use Rattle.reader.proofs.SystemHead.{head_missing, head_kind, head_bits, head_composite, head_rows, head_columns}
use Rattle.reader.proofs.SystemHead.{head_right}
use Rattle.reader.proofs.system.read_head.Goals as goal
use Rattle.reader.proofs.system.read_head.Goals.{then-kind_of-ne1-via-then-kind_of-ne1}
use Rattle.reader.proofs.system.read_head.Goals.{then-kind_of-ne1-via-else-kind_of-ne1+then-from-sides}
use Rattle.reader.proofs.system.read_head.Goals.{then-not-one_to-via-then-not-one_to}
use Rattle.reader.proofs.system.read_head.Goals.{then-not-one_to-via-else-not-one_to+then-not-one_to-2}

pub returns-in_default : goal.returns-in_default
returns-in_default c = sym (head_missing _ _ c.in_default.ensures.item.3)

pub returns-then-kind_of-ne1 : goal.returns-then-kind_of-ne1
returns-then-kind_of-ne1 c =
    let w = c.in-Some.ensures.item.3 in
    elim c.then-kind_of-ne1.branch [
      | then-kind_of-ne1-via-then-kind_of-ne1 t ↦ sym (head_kind _ _ _ w.0 (w.1 0) (λ e. t.if-kind_of-ne1.true (cc)))
      | then-kind_of-ne1-via-else-kind_of-ne1+then-from-sides t ↦
          sym (head_bits _ _ _ w.0 (w.1 0) (cc (t.if-kind_of-ne1.false)) (omega (arith, t.from.ensures, t.if-from-sides.true)))
    ]

pub returns-then-not-is_prime : goal.returns-then-not-is_prime
returns-then-not-is_prime c =
    let w = c.in-Some.ensures.item.3 in
    sym (head_composite _ _ _ w.0 (w.1 0) (cc) (omega arith) (cc))

pub returns-then-not-one_to : goal.returns-then-not-one_to
returns-then-not-one_to c =
    let w = c.in-Some.ensures.item.3 in
    elim c.then-not-one_to.branch [
      | then-not-one_to-via-then-not-one_to t ↦
          sym (head_rows _ _ _ w.0 (w.1 0) (cc) (omega arith) (cc) (cc (t.if-not-one_to.true)))
      | then-not-one_to-via-else-not-one_to+then-not-one_to-2 t ↦
          sym (head_columns _ _ _ w.0 (w.1 0) (cc) (omega arith) (cc) (cc (t.if-not-one_to.false))
          (cc (t.one_to-else-not-one_to.ensures, t.from-else-not-one_to.ensures, t.if-not-one_to-2.true)))
    ]

pub returns : goal.returns
returns c =
    let w = c.in-Some.ensures.item.3 in
    sym (head_right _ _ _ w.0 (w.1 0) (cc) (omega arith) (cc) (cc) (cc))
