-- `bench_exports::bench_add_scaled` meets its contract: before turn t the words have had t steps. Assumes nothing.
use Rattle.std.proofs.Common.{length}
use Rattle.bench_exports.proofs.Rounding.{Rounding}
use Rattle.bench_exports.proofs.bench_add_scaled.Given as goal

abbrev pub invariant-loop-factor : goal.invariant-loop-factor
invariant-loop-factor l = Rounding l.initial.h l.s l.factors l.counts l.h (length l.yielded)
