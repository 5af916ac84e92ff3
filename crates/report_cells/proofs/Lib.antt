-- Laws of specs/, for this crate and those above it.
pub mod TextLaws
