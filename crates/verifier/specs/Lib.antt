-- interface, what contracts, other crates and documents cite: File, FileLaws, Checked, FilesRefused, FileLines, Panel,
--   PanelExamples, Loading
pub mod File
pub mod FileLaws
pub mod Checked
pub mod FilesRefused
pub mod FileLines
-- what is said of the panel's buffers, and examples
pub mod Panel
pub mod PanelExamples
-- what was read and loaded
pub mod Loading
