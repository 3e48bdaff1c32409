pub mod Bindings
pub mod SpecFiles
