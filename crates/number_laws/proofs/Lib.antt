-- Laws that two crates or more want. Each module's header lists its own.
pub mod Tests
pub mod Tables
pub mod Scans
