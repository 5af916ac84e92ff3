-- The claims of specs/.
mod FaultLaws
pub mod Claims
pub mod Uses
