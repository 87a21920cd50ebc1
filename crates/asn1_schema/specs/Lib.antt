-- The algebra of encoding rules.
pub mod Encodings
pub mod Order
pub mod Pieces
pub mod Times
pub mod Reals
pub mod CharactersOfParts
pub mod PiecesOfParts
pub mod Values
pub mod Room
pub mod Fields
pub mod TypeEncodings
pub mod Example
pub mod Narrow
pub mod Laws
