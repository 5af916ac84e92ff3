-- The claims of specs/Claims.antt.
pub mod Claims
pub mod Histories
