-- interface, what contracts, other crates and documents cite: Ring, Identity, Combination, Sum, Total
-- inside: Solver, Examples
pub mod Ring
pub mod Solver
pub mod Identity
pub mod Combination
pub mod Sum
pub mod Total
pub mod Examples
