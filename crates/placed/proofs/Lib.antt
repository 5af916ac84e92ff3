-- Laws of specs/, for the crates above.
pub mod FromLaws
pub mod PlacedLaws
pub mod LeftLaws
pub mod FilledLaws
