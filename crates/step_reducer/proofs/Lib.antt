pub mod Prefixes
pub mod Places
pub mod FactsAt
pub mod Tables
pub mod Turns
pub mod Stacks
pub mod Framing
pub mod Listed
pub mod Asked
pub mod Quiets
pub mod Partings
pub mod Sendings
pub mod Firsts
pub mod Walkings
pub mod Givings
pub mod Shards
mod Refusals
pub mod Covering
