-- What the contracts of this crate and of those above it cite.
pub mod Report
pub mod Length
pub mod Claims
