-- The definitions compute: small examples over p = 2, 3 and 257.
use Rattle.std.specs.Prelude.{◌≡◌, refl, [], ◌∷◌, true, false}
use Rattle.algebra.specs.Coefficients.{mul, divide, remainder, gcd, monic}
use Rattle.modular.specs.Modulo.{modulo, inverse}
use Rattle.modular.specs.Prime.{prime?}

-- (1 + x)² is 1 + x² modulo 2
square : mul (modulo 2) (1 ∷ 1 ∷ []) (1 ∷ 1 ∷ []) ≡ 1 ∷ 0 ∷ 1 ∷ []
unfolding modulo mul
square = refl

-- 1 + x² by 1 + x modulo 3: the quotient is 2 + x and the remainder 2
division : divide (modulo 3) (1 ∷ 0 ∷ 1 ∷ []) (1 ∷ 1 ∷ []) ≡ record { quotient = 2 ∷ 1 ∷ []; remainder = 2 ∷ [] }
unfolding modulo divide
division = refl

-- the monic gcd of 2(x + 1)(x + 2) and 3(x + 1)(x + 5) modulo 257
common : gcd (modulo 257) (4 ∷ 6 ∷ 2 ∷ []) (15 ∷ 18 ∷ 3 ∷ []) ≡ 1 ∷ 1 ∷ []
unfolding modulo gcd
common = refl

prime : prime? 257 ≡ true
unfolding prime?
prime = refl

composite : prime? 255 ≡ false
unfolding prime?
composite = refl

-- 3·86 is 258
third : inverse 257 3 ≡ 86
unfolding inverse
third = refl

-- (200 + 3x)(100 + x + 2x²) modulo 257
product : mul (modulo 257) (200 ∷ 3 ∷ []) (100 ∷ 1 ∷ 2 ∷ []) ≡ 211 ∷ 243 ∷ 146 ∷ 6 ∷ []
unfolding modulo mul
product = refl

-- and back: the quotient is exact
exact : divide (modulo 257) (211 ∷ 243 ∷ 146 ∷ 6 ∷ []) (100 ∷ 1 ∷ 2 ∷ []) ≡ record { quotient = 200 ∷ 3 ∷ []; remainder = [] }
unfolding modulo divide
exact = refl

-- a longer divisor, and zero, leave all as the remainder
longer : divide (modulo 2) (1 ∷ 1 ∷ []) (1 ∷ 0 ∷ 1 ∷ []) ≡ record { quotient = []; remainder = 1 ∷ 1 ∷ [] }
unfolding modulo divide
longer = refl

by_zero : remainder (modulo 2) (1 ∷ 1 ∷ []) [] ≡ 1 ∷ 1 ∷ []
unfolding modulo divide
by_zero = refl

-- 2 + 3x times the inverse of 3
made_monic : monic (modulo 257) (2 ∷ 3 ∷ []) ≡ 172 ∷ 1 ∷ []
unfolding modulo monic
made_monic = refl

-- 1 + x² and 1 + x have the common divisor 1 + x modulo 2, and none modulo 3
common_two : gcd (modulo 2) (1 ∷ 0 ∷ 1 ∷ []) (1 ∷ 1 ∷ []) ≡ 1 ∷ 1 ∷ []
unfolding modulo gcd
common_two = refl

common_three : gcd (modulo 3) (1 ∷ 0 ∷ 1 ∷ []) (1 ∷ 1 ∷ []) ≡ 1 ∷ []
unfolding modulo gcd
common_three = refl
