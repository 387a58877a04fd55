-- interface, what contracts, other crates and documents cite: Values, Framing, Overwriting, ValuesLaws, Trial, TrialLaws, Fault,
--   FaultLaws
-- how polynomials lie in arrays, what code can write of them, and the lent words afterwards
pub mod Values
pub mod Framing
pub mod Overwriting
-- laws of these
pub mod ValuesLaws
-- what trying polynomials gives
pub mod Trial
-- laws of it
pub mod TrialLaws
-- the first value at fault, and that trials refuse just it
pub mod Fault
pub mod FaultLaws
