-- What a call wrote.
pub mod Written
pub mod Fragments
pub mod Put
pub mod Leaf
pub mod Numbers
pub mod Strings
pub mod Texts
-- What follows of what calls wrote; no contract cites it.
pub mod EnumeratedSteps
pub mod FarSteps
pub mod FragmentSteps
pub mod HeaderSteps
pub mod NumberSteps
pub mod OctetSteps
pub mod PutSteps
pub mod TextSteps
pub mod TimeSteps
