-- The words of the contracts.
pub mod Widths
pub mod Sets
pub mod Texts
pub mod Errors
pub mod Words
-- Laws of these words, for the proofs of this crate and of those above it; no contract cites them.
pub mod Laws
