-- interface, what contracts, other crates and documents cite: Unlisted, Answer, Packed, Heads, Version
-- what the answers of the code say; answers, heads and the version as one number
pub mod Unlisted
pub mod Answer
pub mod Packed
pub mod Heads
pub mod Version
