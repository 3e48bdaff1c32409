pub mod RunLemmas
pub mod PieceLemmas
