pub mod FileLemmas
pub mod OrderLemmas
pub mod WalkLemmas
