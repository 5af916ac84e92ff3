-- What the contracts of the crates above cite.
pub mod Placed
pub mod From
