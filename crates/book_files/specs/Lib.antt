pub mod Members
pub mod Pieces
