pub mod Laws
pub mod Runs
pub mod Headline
pub mod Joins
pub mod Gathering
pub mod TwoFarms
