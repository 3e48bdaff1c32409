pub mod OrderLemmas
mod ShowLemmas
