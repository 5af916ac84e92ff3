-- Laws of specs/Bits.antt, for this crate and those above it.
pub mod BitsLaws
pub mod ChoiceLaws
