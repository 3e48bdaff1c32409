pub mod Pages
pub mod Telling
