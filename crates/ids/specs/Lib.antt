-- What the contracts of this crate and of those above it cite.
pub mod Ids
pub mod Numbers
pub mod Packing
pub mod Claims
