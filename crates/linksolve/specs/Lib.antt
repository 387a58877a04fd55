-- interface, what contracts, other crates and documents cite: Replying
-- inside: ReplyingLaws
pub mod Replying
pub mod ReplyingLaws
