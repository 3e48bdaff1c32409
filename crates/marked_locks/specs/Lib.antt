pub mod Queued
pub mod Kept
pub mod Places
