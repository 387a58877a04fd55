pub mod LoadedLaws
pub mod RoundTrip
pub mod Turns
pub mod Answers
