pub mod Cutting
pub mod Explanations
pub mod Places
pub mod Status
