-- Lemmas of the proofs.
pub mod FragmentLemmas
pub mod HeldLemmas
pub mod WidthLemmas
pub mod WordLemmas
pub mod ContentsLemmas
pub mod CharacterLemmas
pub mod TextLemmas
pub mod JoinedLemmas
pub mod QuickLemmas
