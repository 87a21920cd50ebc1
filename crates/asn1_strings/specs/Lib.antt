-- The words of the contracts, those that are re-exported first.
pub use Rattle.asn1_characters.specs.Widths
pub use Rattle.asn1_characters.specs.Sets
pub use Rattle.asn1_characters.specs.Texts
pub use Rattle.asn1_characters.specs.Errors
pub use Rattle.asn1_characters.specs.Words
pub use Rattle.asn1_alphabets.specs.Alphabet
pub use Rattle.asn1_alphabets.specs.AlphabetView
pub mod Pieces
pub mod Strings
pub mod Maps
-- The numbers of pieces of bits, and how far a walk has come; no public contract cites these.
pub mod KeyNumbers
pub mod KeyWalk
-- Laws of these words, for the proofs of this crate and of those above it; no contract cites them.
pub mod Laws
