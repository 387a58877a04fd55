-- interface, what contracts, other crates and documents cite: Printing, PrintingLaws
pub mod Printing
pub mod PrintingLaws
