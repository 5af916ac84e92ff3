-- Laws of specs/StreamTable.antt.
pub mod StreamLaws
