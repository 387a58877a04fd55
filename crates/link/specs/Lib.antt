-- interface, what contracts, other crates and documents cite: Theorems, Packed, PackedLaws, Checked, Together, Panel, NumberLaws,
--   FileLaws
-- the three demands, and what is asked of lines that share a matrix, of delay and feedback, and of the panel; what the exported
-- calls give, as one number
pub mod Theorems
pub mod Packed
-- what that number means: taken apart, of two files, of the two calls together, of the panel's two buffers
pub mod PackedLaws
pub mod Checked
pub mod Together
pub mod Panel
-- the numbers of refusals; the solver and the check on files
pub mod NumberLaws
pub mod FileLaws
