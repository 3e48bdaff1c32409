pub mod NumberLemmas
pub mod AskedLemmas
mod PlaceLemmas
