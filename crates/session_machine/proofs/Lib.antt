pub mod Tracing
pub mod Seeing
pub mod WorldMoments
pub mod Committed
