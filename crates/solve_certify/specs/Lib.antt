-- interface, what contracts, other crates and documents cite: Witnessed, Inserted, Denominator, Solution, Absence, Certifies,
--   Ready, Dropping, Filling, Rising, Falling
-- inside: Words, Found, Ascended, Extending, Undoing, Top, Empty, Bottom
-- the right side at the top; what is asked of it
pub mod Witnessed
-- laws on words
pub mod Words
-- the right side inserted
pub mod Inserted
-- its two ends
pub mod Denominator
pub mod Solution
pub mod Absence
-- that both are what is asked
pub mod Found
-- what the solver's loops do as a whole
pub mod Certifies
-- the columns from one on
pub mod Ascended
pub mod Ready
-- up and down, whatever the column does
pub mod Extending
pub mod Undoing
-- the top
pub mod Top
-- a column in the span of those before
pub mod Dropping
-- a column that fills an empty slot
pub mod Filling
-- a column that is inserted
pub mod Rising
pub mod Falling
-- the bottom
pub mod Empty
pub mod Bottom
