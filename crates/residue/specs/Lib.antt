-- interface, what contracts, other crates and documents cite: Modulus, Reciprocal, Barrett, Below, Sum
-- inside: Primality
pub mod Modulus
pub mod Reciprocal
pub mod Barrett
pub mod Below
pub mod Primality
pub mod Sum
