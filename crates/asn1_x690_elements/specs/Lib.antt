-- What a decoder of DER did.
pub mod Elements
pub mod Room
pub mod Walks
-- Laws of the definitions: no contract cites one.
pub mod Laws
