-- What the contracts of this crate and of those above it cite.
pub mod Extent
pub mod Words
pub mod Rule
pub mod Claims
pub mod Descriptor
