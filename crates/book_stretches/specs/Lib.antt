pub mod Telling
pub mod Classes
pub mod Sweep
pub mod Laws
pub mod Missing
