pub mod Blanks
pub mod Places
pub mod Comments
