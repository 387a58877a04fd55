-- interface, what contracts, other crates and documents cite: SystemIn, Laid, Taken, Equations, LaidLaws, SystemInLaws, TakenLaws,
--   TakenChosen, Answers, ChosenUnique, Existence
-- inside: Listed, Lists, Vectors, RightLists, PivotLists, ChosenLists
-- the system in the input area, and the certificate in the output area
pub mod Listed
pub mod SystemIn
pub mod Laid
pub mod Taken
pub mod Lists
pub mod Vectors
pub mod Equations
pub mod LaidLaws
pub mod SystemInLaws
pub mod TakenLaws
pub mod RightLists
pub mod PivotLists
pub mod ChosenLists
pub mod TakenChosen
pub mod Answers
pub mod ChosenUnique
pub mod Existence
