pub mod Pairs
pub mod Requests
