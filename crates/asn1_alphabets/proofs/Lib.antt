pub mod AlphabetLemmas
pub mod AscendingLemmas
pub mod RepeatLemmas
pub mod RunLemmas
