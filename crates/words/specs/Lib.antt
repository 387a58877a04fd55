-- interface, what contracts, other crates and documents cite: Limits, Word, Outcome, OutcomeLaws, Reading, Polynomial, Frame,
--   System, Systems, Certificate, Bytes, Examples, WordLaws, ReadingLaws, LimitsLaws, VectorLaws, SystemLaws, Rows, RowLaws, Table,
--   FirstFault, TenFirst, Pair, Line, Before, Starts, Kept
pub mod Limits
pub mod Word
pub mod Outcome
pub mod OutcomeLaws
pub mod Reading
pub mod Polynomial
pub mod Frame
pub mod System
pub mod Systems
pub mod Certificate
pub mod Bytes
pub mod Examples
pub mod WordLaws
pub mod ReadingLaws
pub mod LimitsLaws
pub mod VectorLaws
pub mod SystemLaws
pub mod Rows
pub mod RowLaws
pub mod Table
pub mod FirstFault
pub mod TenFirst
pub mod Pair
pub mod Line
pub mod Before
pub mod Starts
pub mod Kept
