-- What a decoder did: which parts it found.
pub mod Room
pub mod Decoding
pub mod Messages
