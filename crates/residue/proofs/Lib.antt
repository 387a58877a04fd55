pub mod Barrett
pub mod Descent
pub mod Remainder
pub mod Trial
