-- Laws of specs/ContextTable.antt.
pub mod ContextLaws
