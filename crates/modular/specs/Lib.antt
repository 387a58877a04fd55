-- interface, what contracts, other crates and documents cite: Bits, Prime, Primality, LargestPrime, Remainder, Modulo, Inverse,
--   Residue, Canonical, Closed, Coefficientwise, Product, Length, Values, Arithmetic, Numbers, Carried, SizeLaws, DivisionLaws,
--   MonicLaws, GcdLaws, Lists, Delay
-- inside: Total, Entries, Step, LcmLaws, Examples
pub mod Bits
pub mod Prime
pub mod Primality
pub mod LargestPrime
pub mod Remainder
pub mod Total
pub mod Modulo
pub mod Inverse
pub mod Residue
pub mod Canonical
pub mod Entries
pub mod Closed
pub mod Coefficientwise
pub mod Product
pub mod Length
pub mod Values
pub mod Arithmetic
pub mod Numbers
pub mod Carried
pub mod Step
pub mod SizeLaws
pub mod DivisionLaws
pub mod MonicLaws
pub mod GcdLaws
pub mod LcmLaws
pub mod Lists
pub mod Delay
pub mod Examples
