-- interface, what contracts, other crates and documents cite: Solving, SolvingLaws, FileLaws, RefusedLaws, Certified, OutputLaws,
--   Examples
-- what the solver gives, on words and on files, and what follows from it
pub mod Solving
pub mod SolvingLaws
pub mod FileLaws
pub mod RefusedLaws
-- the chosen certificate in the output area
pub mod Certified
pub mod OutputLaws
-- examples for 11 and 40
pub mod Examples
