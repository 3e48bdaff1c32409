pub mod LineLemmas
pub mod LevelLemmas
