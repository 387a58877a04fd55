-- interface, what contracts, other crates and documents cite: Writing, Values, Formats, Output, ValuesLaws, WritingLaws,
--   WrittenLaws, WrittenBackLaws, OutputLaws, Refused, Examples
-- what the writers do, how values are handed to them, and how the solver's words are
pub mod Writing
pub mod Values
pub mod Formats
pub mod Output
-- laws of values and of writing; what is written is read back, what is read is written back; what sizes say
pub mod ValuesLaws
pub mod WritingLaws
pub mod WrittenLaws
pub mod WrittenBackLaws
pub mod OutputLaws
-- what the writers refuse; that they refuse just that is in proofs/
pub mod Refused
-- cases that PROVED.md cites
pub mod Examples
