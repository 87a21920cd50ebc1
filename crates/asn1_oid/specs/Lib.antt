-- what contracts speak of
pub mod Arcs
pub mod Contents
pub mod DottedText
pub mod Oid
-- how the steps of the code are stated
pub mod Reading
pub mod Writing
-- laws, with their proofs, for the crates above
pub mod Laws
