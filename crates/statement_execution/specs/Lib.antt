pub mod Run
pub mod Seen
pub mod Alone
