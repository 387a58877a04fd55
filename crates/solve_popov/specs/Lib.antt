-- interface, what contracts, other crates and documents cite: Words, Rework, Short
-- inside: Reduced, SlotStored
-- words that are copied, and how many hold a polynomial
pub mod Words
-- what is found of a slot, how it is stored, and what one and all of them then are
pub mod Rework
-- laws: a slot reduced, and put back
pub mod Reduced
pub mod SlotStored
-- the loop over the slots, and the second system of slots in Popov form
pub mod Short
