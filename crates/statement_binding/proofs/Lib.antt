pub mod EachLemmas
pub mod ChainLemmas
pub mod ChainedLemmas
pub mod ConditionLemmas
pub mod JoinLemmas
pub mod KindLemmas
