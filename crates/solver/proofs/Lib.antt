pub mod OneCertificate
pub mod SameLine
pub mod Reading
mod CertifiedWords
mod Writing
mod FileWriting
