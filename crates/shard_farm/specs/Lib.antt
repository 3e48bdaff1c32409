pub mod Farming
pub mod Working
