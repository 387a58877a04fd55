-- interface, what contracts, other crates and documents cite: Held, Product, Degrees, Combination, Kernel, Coordinate, Blocks,
--   Column, Turn, Multiple, Lowering
-- inside: Read
-- Words in lanes, one lane or eight: a product taken off them, one lane taken out, and negatives.
pub mod Held
pub mod Read
pub mod Product
-- how far the quotients go
pub mod Degrees
-- the coordinate of a column: tails combined, reduced modulo the kernel
pub mod Combination
pub mod Kernel
pub mod Coordinate
-- the vector anew from its coefficients
pub mod Blocks
-- the column taken off, and the turn as a whole
pub mod Column
pub mod Turn
-- a multiple of factors taken off quotients
pub mod Multiple
-- a column of the way down as a whole
pub mod Lowering
