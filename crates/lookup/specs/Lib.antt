-- What the contracts of this crate and of those above it cite.
pub mod Lookup
pub mod Part
pub mod Walked
