-- Laws of specs/, for this crate and those above it.
pub mod ScanLaws
pub mod PutLaws
pub mod ReportLaws
pub mod Claims
pub mod LengthLaws
