pub mod Filling
pub mod WordBytes
