pub mod RefusedLaws
pub mod Opens
pub mod Reading
pub mod Looking
pub mod Small
pub mod Written
