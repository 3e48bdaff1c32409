pub mod Kept
pub mod Logs
