-- The words of the contracts.
pub mod Alphabet
pub mod AlphabetView
-- How alphabets and their sets lie in memory; no public contract cites these.
pub mod AlphabetInMemory
pub mod EffectiveSets
-- Laws of these words, for the proofs of this crate and of those above it; no contract cites them.
pub mod Laws
