pub mod MemberLemmas
pub mod SeenLemmas
pub mod StageLemmas
pub mod WorldLemmas
