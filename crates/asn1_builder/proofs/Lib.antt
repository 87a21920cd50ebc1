-- Lemmas.
mod DraftLemmas
