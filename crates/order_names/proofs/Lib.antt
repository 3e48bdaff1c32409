pub mod Queues
pub mod Sending
pub mod Names
pub mod Spelled
