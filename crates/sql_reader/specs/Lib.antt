pub mod Lists
pub mod Selecting
