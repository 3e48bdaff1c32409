pub mod SpecLemmas
pub mod FaultLemmas
