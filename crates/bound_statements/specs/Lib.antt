pub mod Conditions
pub mod Levels
pub mod Plan
