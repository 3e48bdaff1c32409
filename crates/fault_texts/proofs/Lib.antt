mod BlankLemmas
mod CutLemmas
mod PlaceLemmas
