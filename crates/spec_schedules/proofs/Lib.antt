pub mod Ranks
pub mod Letters
pub mod Words
pub mod Few
pub mod Finals
pub mod Worked
pub mod Unique
