pub mod Moves
pub mod Following
pub mod Known
pub mod Late
pub mod Remembered
pub mod Fronts
pub mod Paths
