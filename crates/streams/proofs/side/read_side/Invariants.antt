-- The digits that are left, behind the value, write the number.
use Rattle.std.proofs.Common.{◌≡◌, ◌≤◌, drop}
use Rattle.streams.specs.Side.{number_written, digits_from, most_side, at_most}
use Rattle.streams.proofs.side.read_side.Given as goal

abbrev pub invariant-loop-byte : goal.invariant-loop-byte
invariant-loop-byte l =
    (l.value ≤ most_side) × (at_most (number_written l.argument) ≡ at_most (digits_from l.value (drop l.byte-index l.argument)))
