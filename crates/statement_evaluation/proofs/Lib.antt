pub mod ListLemmas
pub mod SortLemmas
pub mod WriteLemmas
pub mod LevelEffects
