-- interface, what contracts, other crates and documents cite: Due
-- what is due behind a head
pub mod Due
