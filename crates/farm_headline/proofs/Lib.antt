pub mod RangeLemmas
pub mod RunLemmas
pub mod TrueReports
pub mod SerialOutcomes
pub mod JoinLemmas
pub mod LeftLemmas
pub mod HeadlineLemmas
pub mod FarmLemmas
