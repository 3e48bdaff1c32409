pub mod JobLemmas
pub mod JobViews
