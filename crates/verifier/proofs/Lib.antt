pub mod Parts
pub mod Read
pub mod Tried
pub mod Files
