mod TotalLemmas
mod HistoryLemmas
pub mod RowLemmas
mod TakeLemmas
mod EndLemmas
mod ClaimLemmas
mod StepLemmas
mod TurnLemmas
mod NoteLemmas
mod RestLemmas
mod OpeningLemmas
mod ClosingLemmas
mod GrowthLemmas
