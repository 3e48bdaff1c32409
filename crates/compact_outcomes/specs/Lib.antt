pub mod CompactTexts
pub mod Pieces
pub mod Told
