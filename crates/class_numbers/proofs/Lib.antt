pub mod Picked
pub mod ExpectedLemmas
pub mod BookLemmas
mod DrawnLemmas
