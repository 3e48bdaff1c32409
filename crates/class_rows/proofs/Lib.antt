pub mod Lists
pub mod Passes
pub mod Anomalies
pub mod Putting
pub mod Told
