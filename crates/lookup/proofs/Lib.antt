-- Laws of specs/, for this crate and those above it.
pub mod WalkLaws
pub mod RuledLaws
pub mod PartLaws
