pub mod Made
pub mod Multiple
pub mod Residues
pub mod Products
