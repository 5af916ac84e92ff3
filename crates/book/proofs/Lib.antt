-- Laws of specs/, for this crate and those above it.
pub mod ScanLaws
pub mod AskLaws
pub mod NoticeLaws
pub mod StruckLaws
