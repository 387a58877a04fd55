-- interface, what contracts, other crates and documents cite: Value
pub mod Value
