-- The fields of X.691.
pub mod Fields
pub mod Fragments
pub mod Limits
pub mod Strings
pub mod OpenTypes
pub mod Alphabets
pub mod Characters
pub mod Contents
pub mod Leaves
pub mod Lists
pub mod Types
pub mod Example
pub mod Laws
