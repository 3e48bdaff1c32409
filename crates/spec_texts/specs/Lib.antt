pub mod OneLine
pub mod Texts
pub mod Statements
pub mod Levels
