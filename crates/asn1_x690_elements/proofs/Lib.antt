-- Lemmas of the proofs.
mod WalkSteps
