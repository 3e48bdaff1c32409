pub mod Checking
pub mod Idle
