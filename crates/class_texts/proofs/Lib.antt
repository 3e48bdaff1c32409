mod FlatLemmas
mod LetterLemmas
mod MeetLemmas
mod MissLemmas
pub mod ShownLemmas
mod Worked
mod WilsonLemmas
mod ZipLemmas
