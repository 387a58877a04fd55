-- interface, what contracts, other crates and documents cite: Widths, Slot, Loaded, SlotLaws, StoredLaws
pub mod Widths
pub mod Slot
pub mod Loaded
pub mod SlotLaws
pub mod StoredLaws
