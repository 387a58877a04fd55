-- interface, what contracts, other crates and documents cite: Monic, Product, ProductLaws, Greatest, Words, Laid, TransposeFilling,
--   SideFilling, WithRow, Side, Solved, Denominator, QuotientRows
-- inside: Negated, Reduced, MonicLaws, Cells, Transposed, ValidTransposed, Spread, Filling, Same, OtherTails, RowLaid,
--   SideInserted, SecondDual, Scaled, DividedSecond, SecondEnds
-- what the products ensure
pub mod Monic
pub mod Product
-- the steps that they are made of, and that they are these products
pub mod Negated
pub mod Reduced
pub mod ProductLaws
pub mod MonicLaws
-- the second system of a level, word by word, and as it lies in memory
pub mod Greatest
pub mod Words
pub mod Laid
-- laws: what the words laid out hold
pub mod Cells
pub mod Transposed
pub mod ValidTransposed
-- the loops that lay it out
pub mod Spread
pub mod Filling
pub mod TransposeFilling
pub mod SideFilling
-- the level with a row of its blocks for tails
pub mod Same
pub mod OtherTails
pub mod WithRow
pub mod RowLaid
pub mod Side
-- The second system of a level solved (section 2, step 4, of docs/mathematics.md): its denominator and its rows.
pub mod SideInserted
pub mod SecondDual
pub mod Solved
pub mod Denominator
pub mod Scaled
pub mod DividedSecond
pub mod QuotientRows
pub mod SecondEnds
