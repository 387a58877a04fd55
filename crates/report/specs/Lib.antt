-- interface, what contracts, other crates and documents cite: Reporting, LeastReported, ReportingLaws, Cases
pub mod Reporting
pub mod LeastReported
pub mod ReportingLaws
pub mod Cases
