-- Both slices keep their lengths, and the place stays within a case.
use Rattle.std.proofs.Common.{◌≡◌, ◌+◌, ◌*◌, ◌≤◌, length}
use Rattle.words.specs.Limits.{office}
use Rattle.stored_cases.proofs.polynomials.unpack.Given as goal

abbrev pub invariant-loop-k : goal.invariant-loop-k
invariant-loop-k l =
    (length l.sizes ≡ length l.fn.sizes) × (length l.coefficients ≡ length l.fn.coefficients)
    × (l.place ≤ 6 + (1 + office.certificate_coefficients) * l.k)
