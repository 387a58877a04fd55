-- Polynomials within a limit, in a list.
use Rattle.std.specs.Prelude.{ℕ, zero, suc, ◌<◌, List}
use Rattle.std.proofs.Common.{arith}
use Rattle.words.specs.Polynomial.{Within, AllWithin, VectorWithin}
use Rattle.truth.specs.Listed.{listed, length_listed}

all_listed : (p limit n : ℕ) (f : ℕ → List ℕ) → ((i : ℕ) → i < n → Within p limit (f i)) → AllWithin p limit (listed n f)
unfolding listed AllWithin
all_listed p limit zero f h = tt
all_listed p limit (suc n) f h =
    (h 0 (omega arith), all_listed p limit n (λ i. f (suc i)) (λ i k. h (suc i) (omega arith)))

pub vector_listed : (p limit n : ℕ) (f : ℕ → List ℕ) → ((i : ℕ) → i < n → Within p limit (f i))
    → VectorWithin p limit n (listed n f)
vector_listed p limit n f h = record { entries = all_listed p limit n f h; count = length_listed n f }
