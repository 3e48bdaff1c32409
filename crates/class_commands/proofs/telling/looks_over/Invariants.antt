use Rattle.std.proofs.Common.{◌≡◌, map, take}
use Rattle.class_commands.specs.Classing.{look_over}
use Rattle.class_commands.proofs.telling.looks_over.Given as goal

-- what the looks passed see
abbrev pub invariant-loop-look : goal.invariant-loop-look
invariant-loop-look l = l.looks.items ≡ map (look_over l.rows) (take l.look-index l.asked)
