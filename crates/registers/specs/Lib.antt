-- What the contracts of this crate and of those above it cite.
pub mod Fields
pub mod Sizes
pub mod Words
