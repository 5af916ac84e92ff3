-- What is claimed of the calls for C, and what follows.
pub mod Claims
pub mod Uses
