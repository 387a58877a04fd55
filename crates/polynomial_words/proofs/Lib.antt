pub mod Compared
pub mod Rows
pub mod Adding
pub mod Rest
pub mod Step
pub mod Dividing
pub mod Sliding
