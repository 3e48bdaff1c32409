pub mod State
pub mod Going
pub mod Acting
pub mod Stage
pub mod SetUp
pub mod Refused
