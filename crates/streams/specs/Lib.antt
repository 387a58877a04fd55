-- interface, what contracts, other crates and documents cite: Reading, SystemSpace, Seen, Side, SideLaws
pub mod Reading
pub mod SystemSpace
pub mod Seen
pub mod Side
pub mod SideLaws
