use Rattle.std.proofs.Common.{◌≡◌, map, take}
use Rattle.shown_texts.specs.Lanes.{begun_rail}
use Rattle.shown_texts.proofs.lanes.begun_rails.Given as goal

-- the rails of those passed
abbrev pub invariant-loop-one : goal.invariant-loop-one
invariant-loop-one l = l.rails ≡ map begun_rail (take l.one-index l.begun)
