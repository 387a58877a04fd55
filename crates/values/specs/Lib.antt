-- interface, what contracts, other crates and documents cite: Laid, Loading, HeldLaws, RefusedLaws, Examples
-- inside: LaidLaws
pub mod Laid
pub mod LaidLaws
pub mod Loading
pub mod HeldLaws
pub mod RefusedLaws
pub mod Examples
