-- interface, what contracts, other crates and documents cite: Solution, Listed, Right, ProperSolution, Chosen, Verdict, Lift,
--   RefusalLaws, Demand, ChosenCases, Fractions, Certified, TurnedBack, Feedback, Within
-- inside: Witness
pub mod Witness
pub mod Solution
pub mod Listed
pub mod Right
pub mod ProperSolution
pub mod Chosen
pub mod Verdict
pub mod Lift
pub mod RefusalLaws
pub mod Demand
pub mod ChosenCases
pub mod Fractions
pub mod Certified
pub mod TurnedBack
pub mod Feedback
pub mod Within
