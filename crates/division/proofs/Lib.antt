pub mod Values
pub mod Remainders
