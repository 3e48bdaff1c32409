use Rattle.std.proofs.Common.{◌≡◌, map, take}
use Rattle.shown_texts.specs.Characters.{shown_text}
use Rattle.shown_texts.proofs.frame.shown_names.Given as goal

-- the names passed
abbrev pub invariant-loop-name : goal.invariant-loop-name
invariant-loop-name l = l.lines ≡ map shown_text (take l.name-index l.names)
