-- The three demands, sentence by sentence, over histories of a book; what else is claimed of them, and what follows.
pub mod History
pub mod Demand1
pub mod Demand2
pub mod Demand3
pub mod Claims
pub mod Uses
