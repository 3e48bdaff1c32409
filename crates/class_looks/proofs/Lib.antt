pub mod SeeingLemmas
pub mod ReadingLemmas
pub mod ValueLemmas
pub mod Worked
pub mod WorkedTexts
