-- interface, what contracts, other crates and documents cite: Copied, Settled, Linked, Begun, Started, Next, Column, Filled
-- inside: Cleared
-- The levels of the solver in memory: a column that is inserted makes the next one.
pub mod Copied
pub mod Settled
pub mod Linked
pub mod Cleared
pub mod Begun
pub mod Started
pub mod Next
-- a column divided
pub mod Column
-- a slot filled, and emptied
pub mod Filled
