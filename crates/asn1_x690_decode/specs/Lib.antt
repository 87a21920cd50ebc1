-- What a decoder of DER did.
pub mod Tables
pub mod Decoding
pub mod Members
pub mod Alternatives
pub mod Messages
pub mod Explanations
