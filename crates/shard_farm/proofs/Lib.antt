pub mod WorkLemmas
pub mod CrewLemmas
pub mod MissingLemmas
pub mod ExactLemmas
pub mod FarmLemmas
