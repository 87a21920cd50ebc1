-- Lemmas of the proofs.
pub mod NumberLemmas
pub mod AlphabetLemmas
pub mod CompareSteps
pub mod WordLemmas
pub mod LaneLemmas
pub mod CodeLemmas
pub mod QuickLemmas
