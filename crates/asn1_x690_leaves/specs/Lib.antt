-- What a call tells of the contents octets of a type of one part.
pub mod Told
pub mod Values
-- What follows of characters of a message.
pub mod TextSteps
