pub mod Faults
pub mod Commands
pub mod Testing
pub mod SideBySide
