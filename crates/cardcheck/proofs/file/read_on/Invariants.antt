-- A turn reads at most what it has room for. It reads something, or is the last.
use Rattle.std.proofs.Common.{◌+◌, ◌-◌, ◌≤◌}
use Rattle.cardcheck.specs.End.{turn_bytes, most_bytes}
use Rattle.cardcheck.proofs.file.read_on.Given as goal

abbrev pub invariant-loop-last : goal.invariant-loop-last
invariant-loop-last g l = l.last ≤ turn_bytes

abbrev pub decreases-loop-last : goal.decreases-loop-last
decreases-loop-last g l = (most_bytes + 1 - l.length) + l.last
