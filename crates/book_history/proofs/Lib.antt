-- The sentences of the demands and the other claims, and the laws that they rest on.
pub mod AskedLaws
pub mod Demand1
pub mod Demand2
pub mod HistoryLaws
pub mod Claims
pub mod Demand3
pub mod Uses
