pub mod SetLemmas
pub mod PlaceLemmas
pub mod WordLemmas
pub mod TableLemmas
pub mod WidthLemmas
