pub mod LongestLaws
mod Digits
mod Due
mod Lines
