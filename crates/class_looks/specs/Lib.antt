pub mod Reading
pub mod Seeing
pub mod Values
pub mod Laws
