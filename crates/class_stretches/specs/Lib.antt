pub mod Classes
pub mod Stretches
pub mod Growing
pub mod Copying
pub mod Counting
pub mod Groups
