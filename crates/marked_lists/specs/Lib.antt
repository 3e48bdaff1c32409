pub mod Trail
pub mod Versions
