-- Lemmas of the proofs.
pub mod MessageSteps
pub mod PresenceSteps
