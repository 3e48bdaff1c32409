pub mod ConditionLemmas
pub mod LevelLemmas
pub mod PlanModes
mod Worked
