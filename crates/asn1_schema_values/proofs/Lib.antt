-- Lemmas.
mod ExtentLemmas
mod ValueLemmas
mod ComponentLemmas
mod TableLemmas
mod RangeLemmas
mod PieceLemmas
