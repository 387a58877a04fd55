pub mod LookupLaws
pub mod Walk
pub mod FindSteps
pub mod Findings
