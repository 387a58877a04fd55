-- interface, what contracts, other crates and documents cite: Rounds
pub mod Rounds
