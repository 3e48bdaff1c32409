pub mod formers
pub mod JobTrees
pub mod Jobs
pub mod Laws
