-- interface, what contracts, other crates and documents cite: Lookup, Answer, Examples, Standing, RefusedLaws
-- inside: StandingLaws
pub mod Lookup
pub mod Answer
pub mod Examples
pub mod Standing
pub mod StandingLaws
pub mod RefusedLaws
