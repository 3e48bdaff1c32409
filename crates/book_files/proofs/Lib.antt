pub mod BookLaws
mod MemberLemmas
mod PartLaws
