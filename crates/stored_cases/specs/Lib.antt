-- interface, what contracts, other crates and documents cite: Places, Codes
pub mod Places
pub mod Codes
