pub mod CompactLemmas
pub mod DataLemmas
pub mod OutcomeValues
pub mod PieceLemmas
pub mod TextLemmas
