pub mod Stepping
pub mod Dividing
pub mod Taking
pub mod Reducing
pub mod SwappedWords
pub mod SwappedLevel
pub mod Swapping
pub mod Inserting
