pub mod SeenLemmas
pub mod AloneLemmas
pub mod PlaceLemmas
pub mod GivenLemmas
