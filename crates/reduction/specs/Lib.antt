-- interface, what contracts, other crates and documents cite: Replace, Total, Pivot, Slots, Span, Independence, Euclidean, Moves,
--   Tails, Trace, Kept, Insert, Inserting, Division, System, Link, Column, Filling, Levels, Descent, Numerators, Reduced, Dual,
--   Transpose, Second, Popov, Certificate, Certifying, Killing, Solution, Unfinished, Absence, Existence, Polynomials, Holds, Flat,
--   Held
-- inside: Step, Row, Least, Dependence, Lowering, Reducing, Clearing, LowerBounds, Run, RunSecond, RunLevels, RunDescent, RunPopov,
--   Square, Joint, Lines, Units, Gathering
-- Beside mathematics.md, from the bottom up.
-- functions of an index, sums of numbers
pub mod Replace
pub mod Total
-- pivots; L1, a step
pub mod Pivot
pub mod Step
-- slots and their span; L3 and its transpose
pub mod Slots
pub mod Span
pub mod Independence
pub mod Row
-- rings with division, as K[x]
pub mod Euclidean
-- insert: L2, L4, its trace and what it keeps, and that it ends
pub mod Moves
pub mod Tails
pub mod Trace
pub mod Kept
pub mod Insert
pub mod Inserting
pub mod Least
-- divide
pub mod Division
-- levels: L5, L6
pub mod System
pub mod Link
pub mod Column
pub mod Filling
pub mod Dependence
pub mod Levels
pub mod Lowering
pub mod Descent
pub mod Numerators
pub mod Reduced
-- the second system: L8
pub mod Dual
pub mod Transpose
pub mod Second
pub mod Popov
pub mod Reducing
-- certificates: L7, L9
pub mod Certificate
pub mod Clearing
pub mod Certifying
pub mod LowerBounds
pub mod Killing
pub mod Solution
pub mod Unfinished
pub mod Absence
-- the algorithm as functions, and that every system has a certificate
pub mod Run
pub mod RunSecond
pub mod RunLevels
pub mod RunDescent
pub mod RunPopov
pub mod Existence
pub mod Square
-- several right sides
pub mod Joint
pub mod Lines
pub mod Units
pub mod Gathering
-- K[x], and vectors over it in memory
pub mod Polynomials
pub mod Holds
pub mod Flat
pub mod Held
