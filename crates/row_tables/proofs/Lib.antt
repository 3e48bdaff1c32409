pub mod LayersLemmas
pub mod ListLemmas
pub mod OverlayLemmas
pub mod RestoreLemmas
pub mod StoreLemmas
pub mod TableLemmas
pub mod UndoLemmas
pub mod OnlyLemmas
