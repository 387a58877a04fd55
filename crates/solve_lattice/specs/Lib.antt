-- interface, what contracts, other crates and documents cite: Room, Word, Memory, Holding, Range, LaneStored, Sums, Found, Reading,
--   SameBlocks, Step, Monomial, Quotients, Coefficients, Remainder, Moves, Lanes, Insertion, Stage, Input, Output, References
-- inside: Noted, Leading
-- what stands in memory
pub mod Room
pub mod Word
pub mod Memory
pub mod Noted
pub mod Holding
-- laws: ranges of words, and what is read off memory
pub mod Range
pub mod LaneStored
pub mod Sums
pub mod Found
pub mod Reading
pub mod SameBlocks
-- a step
pub mod Step
-- divide
pub mod Monomial
pub mod Quotients
pub mod Coefficients
-- reduce_words
pub mod Remainder
-- insert
pub mod Moves
pub mod Leading
pub mod Lanes
pub mod Insertion
-- How the solver's input and output lie in memory.
pub mod Stage
pub mod Input
pub mod Output
pub mod References
