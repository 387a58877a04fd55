pub mod Told
pub mod SystemHead
pub mod CertificateHead
pub mod FrameSteps
pub mod SystemSteps
pub mod LineSteps
pub mod CertificateSteps
pub mod KeptSteps
