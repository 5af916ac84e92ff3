-- Laws of specs/, for this crate and those above it.
pub mod ScanLaws
pub mod WordsLaws
pub mod MarksLaws
pub mod MalformedLaws
pub mod KeptLaws
pub mod WellLaws
pub mod KeepsLaws
