pub mod Running
pub mod SharedStage
pub mod Tracing
pub mod Telling
pub mod Showing
