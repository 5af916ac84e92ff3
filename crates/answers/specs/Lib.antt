-- What the contracts of this crate and of those above it cite.
pub mod Layout
pub mod Refusals
pub mod Outcome
pub mod Values
pub mod Pieces
pub mod Walk
pub mod Proper
