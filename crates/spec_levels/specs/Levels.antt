-- Under which level a spec stands.
use Rattle.std.specs.Prelude.{◌≡◌, ℕ, List}
use Rattle.bound_specs.specs.Spec.{SpecFile}
use Rattle.spec_levels.specs.declared.levels.Levels.{Levels}
use Rattle.spec_texts.specs.Levels.{AreOtherLevelLines}

-- the levels of the spec file of this text
pub record AreLevels (text : List ℕ) (file : SpecFile) (levels : Levels) : Type 0 where
  pub asked : levels.asked ≡ file.asked
  pub others : AreOtherLevelLines text file levels.other_lines.items
