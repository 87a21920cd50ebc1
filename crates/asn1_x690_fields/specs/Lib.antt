-- What a call did to the state of a decoder, and what it says of its result.
pub mod Outcomes
-- What follows from steps of a decoder; no contract cites these.
pub mod Steps
