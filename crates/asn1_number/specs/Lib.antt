-- The words of the contracts.
pub mod Octets
pub mod Order
pub mod Shortest
pub mod Readings
pub mod Conversions
pub mod Constrained
pub mod Sums
pub mod StatedLaws
-- How values lie in memory; no public contract cites these.
pub mod Forms
pub mod Storage
-- Laws of these words, for the proofs of this crate and of those above it; no contract cites them.
pub mod Laws
