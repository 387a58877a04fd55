-- interface, what contracts, other crates and documents cite: Ascii, Decimal, DecimalLaws, Text, Examples, TextLaws, Longest,
--   Written, Grown, Verdict
-- inside: WrittenLaws
pub mod Ascii
pub mod Decimal
pub mod DecimalLaws
pub mod Text
pub mod Examples
pub mod TextLaws
pub mod Longest
pub mod Written
pub mod Grown
pub mod WrittenLaws
pub mod Verdict
