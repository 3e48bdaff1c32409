pub mod Numbers
pub mod Parts
pub mod Fits
pub mod Log
pub mod Turned
