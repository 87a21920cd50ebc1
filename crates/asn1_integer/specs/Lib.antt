-- The words of the contracts, those of the crate below first.
pub use Rattle.asn1_number.specs.Octets
pub use Rattle.asn1_number.specs.Order
pub use Rattle.asn1_number.specs.Readings
pub use Rattle.asn1_number.specs.StatedLaws
pub mod Wrapping
pub mod Calls
pub mod IntegerOctets
-- Numbers by their low bits, and the laws of the private trait on them; no public contract cites
-- these.
pub mod NativeBits
pub mod Laws
