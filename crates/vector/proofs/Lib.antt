pub mod Parts
pub mod Storing
pub mod Sums
pub mod Zeros
