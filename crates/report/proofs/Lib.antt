pub mod LeastReportedLaws
mod Giving
