pub mod BlankLemmas
pub mod LabelLemmas
pub mod WalkLemmas
