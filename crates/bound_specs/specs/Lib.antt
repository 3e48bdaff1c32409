pub mod Binding
pub mod Fits
pub mod Levels
pub mod Lines
pub mod Orders
pub mod Spec
pub mod Views
pub mod Walking
