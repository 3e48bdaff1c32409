pub mod Classes
pub mod Drawing
pub mod Meant
pub mod Showing
pub mod Told
pub mod Tallies
pub mod Serial
pub mod Leading
