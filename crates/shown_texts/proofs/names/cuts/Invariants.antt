use Rattle.std.proofs.Common.{◌≡◌, map, take}
use Rattle.shown_texts.specs.Names.{cut}
use Rattle.shown_texts.proofs.names.cuts.Given as goal

-- the names passed, cut
abbrev pub invariant-loop-name : goal.invariant-loop-name
invariant-loop-name l = l.cuts ≡ map (cut l.most) (take l.name-index l.names)
