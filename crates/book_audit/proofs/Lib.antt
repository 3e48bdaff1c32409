pub mod Tests
pub mod Falling
pub mod CompareLemmas
pub mod Least
pub mod PieceLemmas
pub mod Combined
