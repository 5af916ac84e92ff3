-- What is claimed of the lookup, and what follows.
pub mod Failed
pub mod Claims
pub mod Uses
