-- interface, what contracts, other crates and documents cite: Or, Sum, RowStored, Stored, Reduced, Multiple, Bound, Size, Moved
-- inside: Row, Examples
-- Eight words at once: what the loops on long ranges do in one turn.
pub mod Or
pub mod Sum
pub mod RowStored
-- Loops on flat ranges of 64-bit words: the inner loops of the solver, the check and the polynomial product.
pub mod Stored
pub mod Reduced
pub mod Multiple
pub mod Bound
pub mod Size
pub mod Row
pub mod Moved
pub mod Examples
