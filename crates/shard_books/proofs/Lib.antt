pub mod Recordable
pub mod ShardLemmas
