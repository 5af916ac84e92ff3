-- Laws of specs/.
pub mod CallsLaws
