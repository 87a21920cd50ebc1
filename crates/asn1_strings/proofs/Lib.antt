pub mod StringLemmas
pub mod PieceLemmas
pub mod TextLemmas
pub mod BmpLemmas
pub mod KeyLemmas
pub mod OctetLemmas
