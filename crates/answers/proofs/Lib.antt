-- Laws of specs/, for this crate and those above it.
pub mod PiecesLaws
pub mod WalkLaws
pub mod ProperLaws
pub mod ReadLaws
