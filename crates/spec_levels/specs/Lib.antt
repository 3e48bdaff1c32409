pub mod Asking
pub mod Levels
pub mod Levelled
pub mod Parts
