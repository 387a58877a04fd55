-- interface, what contracts, other crates and documents cite: Column, Matrix
-- inside: Laying
pub mod Column
pub mod Matrix
pub mod Laying
