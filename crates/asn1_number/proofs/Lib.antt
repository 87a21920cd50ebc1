pub mod SpellingLemmas
pub mod WordLemmas
