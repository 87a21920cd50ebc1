-- What an encoder did.
pub mod Kinds
pub mod Encoding
pub mod Compared
pub mod Any
pub mod Sets
pub mod Messages
-- What follows of what calls did; no contract cites it.
pub mod Steps
pub mod EnclosedSteps
pub mod NodeSteps
pub mod ToldSteps
pub mod FirstSteps
pub mod PlaceSteps
pub mod OtherSteps
pub mod ListSteps
pub mod ChoiceSteps
pub mod AnySteps
pub mod AdditionSteps
pub mod GroupSteps
pub mod SetSteps
