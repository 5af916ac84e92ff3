-- What the contracts of this crate cite.
pub mod Words
pub mod Numbers
