-- The laws that the proofs of `words` cite.
pub mod WordsLaws
pub mod NumbersLaws
mod Examples
