-- The words of the contracts.
pub mod Codes
pub mod Contents
pub mod Elements
pub mod Fields
pub mod Octets
pub mod Sets
pub mod Text
pub mod Writing
-- How a step of the code is stated; no public contract cites these.
pub mod Arcs
pub mod Digits
