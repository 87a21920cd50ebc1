-- Lemmas of the proofs.
mod LengthSteps
mod NumberSteps
mod HeaderSteps
