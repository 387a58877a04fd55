-- interface, what contracts, other crates and documents cite: FileWords, FileBytes, FileBytesLaws, Opening, OpeningLaws,
--   OpeningBoth, OpeningBothLaws
-- words of bytes, bytes of words
pub mod FileWords
pub mod FileBytes
pub mod FileBytesLaws
-- opening a file, and what is then said of a reading of its words
pub mod Opening
pub mod OpeningLaws
-- the same of a system's file and a certificate's
pub mod OpeningBoth
pub mod OpeningBothLaws
