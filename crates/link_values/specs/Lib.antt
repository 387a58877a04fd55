-- interface, what contracts, other crates and documents cite: Files, Giving, Refusals, Unpacked, ToldLaws, FilesLaws, WritingLaws,
--   Examples
-- inside: GivingLaws
-- what is told of files and values, and what calls leave of it
pub mod Files
pub mod Giving
-- an answer as one number, taken apart
pub mod Refusals
pub mod Unpacked
-- what is told in the terms of the words; numbers and places of refusals; what is written
pub mod ToldLaws
pub mod FilesLaws
pub mod WritingLaws
-- a case that PROVED.md cites
pub mod Examples
-- what a call leaves, case by case
pub mod GivingLaws
