-- Laws of the definitions, for the proofs of this crate and of those above it.
pub mod WidthLaws
pub mod SetLaws
pub mod TableLaws
