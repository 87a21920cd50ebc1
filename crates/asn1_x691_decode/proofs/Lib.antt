mod PresenceSteps
mod Steps
mod ExceptSteps
pub mod OpenSteps
mod SequenceSteps
mod SetSteps
mod ChoiceSteps
mod FragmentSteps
mod ListSteps
mod MessageSteps
