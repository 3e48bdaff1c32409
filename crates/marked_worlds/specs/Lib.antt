pub mod Members
pub mod Stages
pub mod Worlds
pub mod Told
