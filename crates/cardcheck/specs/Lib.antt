-- interface, what contracts, other crates and documents cite: Name, End, SeenLaws
pub mod Name
pub mod End
pub mod SeenLaws
