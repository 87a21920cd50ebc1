-- What an encoder did.
pub mod Encoding
pub mod Components
pub mod Additions
pub mod Alternatives
pub mod Padding
pub mod Enclosed
pub mod Compared
pub mod Sets
-- What it says of a message.
pub mod Messages
-- What follows of steps of an encoder; no contract cites it.
pub mod LeafSteps
pub mod ListSteps
pub mod FragmentSteps
pub mod ExtensionSteps
pub mod ChoiceSteps
pub mod CompleteSteps
pub mod AdditionSteps
pub mod AlternativeSteps
pub mod OpenSteps
pub mod ComponentSteps
pub mod SequenceSteps
pub mod PlaceSteps
pub mod OtherSteps
pub mod SetSteps
