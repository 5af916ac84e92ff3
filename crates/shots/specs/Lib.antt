-- The shots, and what is claimed of them.
pub mod Shots
pub mod Faults
pub mod Claims
pub mod Histories
