pub mod Cutting
pub mod Progress
