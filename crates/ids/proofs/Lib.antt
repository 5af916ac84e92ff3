-- Laws of specs/, for this crate and those above it.
pub mod IdsLaws
pub mod NumbersLaws
pub mod PackingLaws
pub mod Claims
