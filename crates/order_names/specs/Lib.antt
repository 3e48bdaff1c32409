pub mod Orders
pub mod Steps
pub mod Spelling
