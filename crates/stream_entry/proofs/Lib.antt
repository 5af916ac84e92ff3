-- Laws of specs/StreamEntry.antt.
pub mod Stage1Laws
pub mod EntryLaws
