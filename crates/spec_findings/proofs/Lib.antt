mod FaultLemmas
mod PieceLemmas
mod ToldLemmas
