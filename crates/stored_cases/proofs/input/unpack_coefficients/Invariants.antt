-- The words before i are below the bound.
use Rattle.std.proofs.Common.{◌≡◌, ℕ, ◌<◌, length, get_or}
use Rattle.stored_cases.proofs.input.unpack_coefficients.Given as goal

abbrev pub invariant-loop-i : goal.invariant-loop-i
invariant-loop-i l = (length l.f ≡ length l.fn.f) × ((k : ℕ) → k < l.i → get_or l.f k 0 < l.bound)
