use Rattle.std.proofs.Common.{◌≡◌, ◌++◌, flat_map}
use Rattle.shown_texts.specs.Characters.{visible}
use Rattle.shown_texts.proofs.characters.put_shown.Given as goal

-- the characters passed are put as they are shown
abbrev pub invariant-loop-c : goal.invariant-loop-c
invariant-loop-c l = l.line ≡ l.fn.line ++ flat_map visible l.yielded
