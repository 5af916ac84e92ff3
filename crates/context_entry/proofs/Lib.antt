-- Laws of specs/ContextEntry.antt.
pub mod EntryLaws
