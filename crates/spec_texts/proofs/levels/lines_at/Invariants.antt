use Rattle.std.proofs.Common.{◌≡◌, ◌++◌, drop}
use Rattle.spec_texts.specs.Levels.{lines_from}
use Rattle.spec_texts.proofs.levels.lines_at.Given as goal

-- the lines told and those to come are all of them
abbrev pub invariant-loop-place : goal.invariant-loop-place
invariant-loop-place l = l.lines.items ++ lines_from l.text l.last (drop l.place-index l.places) ≡ lines_from l.text 0 l.places
