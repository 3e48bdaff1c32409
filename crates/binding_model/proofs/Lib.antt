mod Worked
pub mod OptionLemmas
