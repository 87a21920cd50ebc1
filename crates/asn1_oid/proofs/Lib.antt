pub mod BackLemmas
pub mod DottedLemmas
pub mod ParseLemmas
pub mod PushLemmas
pub mod ReadingLemmas
pub mod StepLemmas
pub mod WritingLemmas
