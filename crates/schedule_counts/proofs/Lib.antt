pub mod Places
pub mod Searches
pub mod Ends
pub mod Sums
