-- interface, what contracts, other crates and documents cite: BothRead, ReadLaws
-- both were read; what the readers tell, in the terms of the readings
pub mod BothRead
pub mod ReadLaws
