pub mod Ends
pub mod Calls
