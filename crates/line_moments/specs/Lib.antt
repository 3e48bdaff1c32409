pub mod Moments
pub mod Reads
pub mod Stale
pub mod Left
pub mod Laws
