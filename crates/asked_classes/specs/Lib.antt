pub mod First
pub mod Filters
pub mod Looks
pub mod Asking
