-- interface, what contracts, other crates and documents cite: Value, Counts
pub mod Value
pub mod Counts
