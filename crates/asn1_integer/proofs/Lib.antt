pub mod ReadingLemmas
pub mod NativeLemmas
pub mod WrapLemmas
pub mod UnsignedLemmas
pub mod OneLemmas
