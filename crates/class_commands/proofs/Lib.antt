mod ClassLemmas
mod BookLemmas
mod OpenedLemmas
mod SampleLemmas
mod LevelLemmas
