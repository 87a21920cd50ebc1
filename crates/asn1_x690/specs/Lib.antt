-- The encoding rules of X.690.
pub mod Series
pub mod Elements
pub mod TypeContents
pub mod Leaves
pub mod Der
pub mod Example
pub mod Laws
