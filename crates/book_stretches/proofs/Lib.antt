pub mod Places
pub mod Numbered
pub mod Giving
pub mod Going
pub mod Votes
pub mod TrueBooks
pub mod Gaps
