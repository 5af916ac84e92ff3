-- Laws of specs/, for this crate and those above it.
pub mod SizesLaws
pub mod WordsLaws
