-- What `is_prime` accepts is a prime, and of 16 bits it is at most the largest modulus.
use Rattle.std.proofs.Common.{sym, ◌∙◌, arith}
use Rattle.modular.specs.Primality.{prime_of_true}
use Rattle.modular.specs.LargestPrime.{prime_largest}
use Rattle.stored_cases.proofs.arithmetic.answer.Goals as goal

pub new-requires : goal.new-requires
new-requires c =
    let p = c.in-Ok.p in
    let prime = prime_of_true p (sym c.is_prime.ensures ∙ c.if-is_prime.true) in
    (prime, prime_largest p prime (omega arith))
