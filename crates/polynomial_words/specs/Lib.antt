-- interface, what contracts, other crates and documents cite: Decides, Product, Long, Window
pub mod Decides
pub mod Product
pub mod Long
pub mod Window
