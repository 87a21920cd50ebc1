-- The words of the contracts.
pub mod BitAppender
pub mod BitBuffer
pub mod BitLists
pub mod BitReader
pub mod Bits
pub mod BitStr
pub mod FixedBitString
pub mod Joined
pub mod Octets
pub mod Turns
pub mod View
-- Laws of these words, for the proofs of this crate and of those above it; no contract cites them.
pub mod Laws
