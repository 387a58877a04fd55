pub mod RefusedLaws
pub mod Answers
pub mod Ready
pub mod Sizes
