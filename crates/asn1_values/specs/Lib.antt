-- The words of the contracts.
pub mod Fields
pub mod Plain
pub mod Wrong
pub mod Refusals
pub mod Words
-- How the steps of the code are stated; no public contract cites these.
pub mod Walk
pub mod Steps
-- Laws of these words, for the proofs of this crate and of those above it; no contract cites them.
pub mod Laws
-- The words of the crates below that contracts of their public calls cite, so that a user's
-- contracts name this crate alone.
pub use Rattle.asn1_bits.specs.Bits
pub use Rattle.asn1_bits.specs.View
pub use Rattle.asn1_bits.specs.BitStr
pub use Rattle.asn1_bits.specs.BitReader
pub use Rattle.asn1_bits.specs.BitBuffer
pub use Rattle.asn1_bits.specs.BitAppender
pub use Rattle.asn1_bits.specs.BitLists
pub use Rattle.asn1_bits.specs.Joined
pub use Rattle.asn1_bits.specs.Octets
pub use Rattle.asn1_bits.specs.Turns
pub use Rattle.asn1_number.specs.Readings
pub use Rattle.asn1_number.specs.Shortest
pub use Rattle.asn1_number.specs.Conversions
pub use Rattle.asn1_integer.specs.Calls
pub use Rattle.asn1_integer.specs.IntegerOctets
pub use Rattle.asn1_integer.specs.Wrapping
pub use Rattle.asn1_oid.specs.Arcs
pub use Rattle.asn1_oid.specs.Contents
pub use Rattle.asn1_oid.specs.Oid
pub use Rattle.asn1_characters.specs.Errors
pub use Rattle.asn1_characters.specs.Sets
pub use Rattle.asn1_characters.specs.Texts
pub use Rattle.asn1_characters.specs.Widths
pub use Rattle.asn1_alphabets.specs.Alphabet
pub use Rattle.asn1_alphabets.specs.AlphabetView
pub use Rattle.asn1_strings.specs.Maps
pub use Rattle.asn1_strings.specs.Pieces
pub use Rattle.asn1_strings.specs.Strings
