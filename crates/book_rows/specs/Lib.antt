pub mod Totals
pub mod Classes
pub mod Parts
