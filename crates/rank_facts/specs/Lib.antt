pub mod Quiet
pub mod Footprint
pub mod Swap
pub mod Facts
pub mod Values
pub mod Shards
pub mod Laws
