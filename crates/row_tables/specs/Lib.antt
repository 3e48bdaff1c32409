pub mod Overlay
pub mod Layers
pub mod Tables
pub mod Undo
