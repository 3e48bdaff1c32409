pub mod Schedules
pub mod Points
pub mod Counted
pub mod Ranked
pub mod Laws
