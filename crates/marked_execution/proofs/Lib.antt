pub mod LogLemmas
pub mod OnlySight
