-- What a call did to the state of a decoder, and what it says of its result.
pub mod Outcomes
pub mod Numbers
pub mod Characters
pub mod NumberSources
pub mod Octets
pub mod Defaults
pub mod Fragments
pub mod Lanes
pub mod Windows
-- What follows from steps of a decoder; no contract cites these.
pub mod ContentSteps
pub mod FirstBits
pub mod FragmentOctetSteps
pub mod FragmentSteps
pub mod JoinedSteps
pub mod LeafSteps
pub mod NumberSteps
pub mod SignedSteps
pub mod Steps
pub mod StringSteps
pub mod TextSteps
pub mod TrimmedSteps
pub mod Utf8Steps
pub mod WindowSteps
