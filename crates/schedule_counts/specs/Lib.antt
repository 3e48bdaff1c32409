pub mod Searching
pub mod States
pub mod Classes
