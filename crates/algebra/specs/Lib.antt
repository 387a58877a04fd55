-- interface, what contracts, other crates and documents cite: Operations, Coefficients, Transfer, Field, Series, Pullback,
--   Coefficient, Canonical, Polynomial, Expressions, Sized, Size, Cancellation, Division, Divides, Exact, Monic, Bezout, Gcd,
--   Coprime, Lcm
pub mod Operations
pub mod Coefficients
-- the same over other coefficients
pub mod Transfer
-- the ring of polynomials over a field
pub mod Field
pub mod Series
pub mod Pullback
pub mod Coefficient
pub mod Canonical
pub mod Polynomial
pub mod Expressions
-- sizes
pub mod Sized
pub mod Size
pub mod Cancellation
-- division and divisors
pub mod Division
pub mod Divides
pub mod Exact
pub mod Monic
pub mod Bezout
pub mod Gcd
pub mod Coprime
pub mod Lcm
