use Rattle.std.proofs.Common.{◌≡◌, map, take}
use Rattle.class_texts.specs.Beneath.{look_line}
use Rattle.class_texts.proofs.looks.looks_lines.Given as goal

-- the lines of the queries passed
abbrev pub invariant-loop-look : goal.invariant-loop-look
invariant-loop-look l = l.lines ≡ map (look_line l.steps l.place) (take l.look-index l.looks)
