pub mod Turns
pub mod Overwriting
pub mod Framed
pub mod Coefficients
pub mod Polynomials
