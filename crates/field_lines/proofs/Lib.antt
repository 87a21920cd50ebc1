pub mod AnswerLemmas
pub mod LineLemmas
pub mod NumberLemmas
pub mod OneLemmas
pub mod PartLemmas
pub mod WordLemmas
