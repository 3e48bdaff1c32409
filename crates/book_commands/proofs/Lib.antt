pub mod FileLemmas
pub mod ReportLemmas
pub mod JoinLemmas
pub mod KeptLemmas
pub mod JudgeLemmas
pub mod SideLemmas
pub mod RunLemmas
pub mod MissingLemmas
mod Worked
