-- interface, what contracts, other crates and documents cite: Areas, AreaLaws, Held, Propositions, Products, Table, Walk
-- the areas of the check, the values that they hold, and what follows for what was loaded
pub mod Areas
pub mod AreaLaws
-- the values in the areas as the code holds them
pub mod Held
-- that it is one fact that they are loaded
pub mod Propositions
-- products of two slots
pub mod Products
-- the rows 31 to 36 one by one, and that the verdict is these in their order
pub mod Table
-- what is carried down the columns of Z·A, which is the remainder of the sum so far
pub mod Walk
