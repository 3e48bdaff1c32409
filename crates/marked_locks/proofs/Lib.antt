mod SeenLemmas
mod RingLemmas
mod LeavingLemmas
mod TableLemmas
mod KeepLemmas
