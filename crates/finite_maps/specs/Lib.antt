pub mod Entries
pub mod Map
pub mod Numbers
pub mod Codes
