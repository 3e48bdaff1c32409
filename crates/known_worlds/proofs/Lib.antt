mod MoveLemmas
mod FollowLemmas
mod RememberedLemmas
mod AlongLemmas
pub mod FrontLemmas
pub mod PathLemmas
