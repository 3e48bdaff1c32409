pub mod Strings
pub mod Words
pub mod Levels
pub mod Moments
pub mod Page
pub mod Laws
