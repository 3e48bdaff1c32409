pub mod Cells
pub mod Kept
pub mod Picture
pub mod Places
pub mod Pool
pub mod Shown
