-- Laws of specs/, for this crate and those above it.
pub mod ExtentLaws
pub mod WordsLaws
pub mod DescriptorLaws
pub mod RunLaws
pub mod BelowLaws
pub mod Claims
