pub mod AskedLemmas
pub mod FitLemmas
pub mod WaitLemmas
pub mod QuietLemmas
