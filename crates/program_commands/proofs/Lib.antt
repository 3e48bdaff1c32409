pub mod CommandLemmas
pub mod FaultLemmas
pub mod TestLemmas
pub mod SideLemmas
