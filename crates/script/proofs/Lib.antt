-- The laws that the proofs of `script` cite.
pub mod PlaceLaws
