pub mod Quiet
pub mod Asked
pub mod Waiting
