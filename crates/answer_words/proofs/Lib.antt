-- Laws of specs/, for this crate and those above it.
pub mod ProperTests
pub mod AnswerWordsLaws
pub mod ListLaws
