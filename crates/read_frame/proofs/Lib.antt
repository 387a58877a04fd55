pub mod Later
pub mod CoefficientTurns
pub mod StartWord
pub mod PolynomialTurns
pub mod EndWord
pub mod BodySteps
