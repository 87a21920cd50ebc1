-- Laws of the definitions, for the proofs of this crate and of those above it.
pub mod DigitLaws
pub mod NumberLaws
pub mod OrderLaws
pub mod ByteLaws
pub mod OverwrittenLaws
pub mod ViewLaws
