pub mod Evaluate
pub mod Effect
pub mod Few
pub mod Matched
pub mod Borrowed
