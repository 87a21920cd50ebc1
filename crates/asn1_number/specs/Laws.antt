-- Laws of the definitions, for the proofs of this crate and of those above it.
pub mod OctetLaws
pub mod OctetOrderLaws
pub mod WidthLaws
pub mod ReadingLaws
pub mod ShortestLaws
pub mod LawsHold
