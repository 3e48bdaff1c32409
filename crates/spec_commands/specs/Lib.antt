pub mod One
pub mod Counting
pub mod Ordering
pub mod Showing
