mod LineLemmas
mod Worked
mod InputLemmas
