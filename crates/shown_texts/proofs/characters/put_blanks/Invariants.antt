use Rattle.std.proofs.Common.{◌≡◌, ◌++◌}
use Rattle.shown_texts.specs.Characters.{blanks}
use Rattle.shown_texts.proofs.characters.put_blanks.Given as goal

-- so many blanks are put
abbrev pub invariant-loop : goal.invariant-loop
invariant-loop l = l.line ≡ l.fn.line ++ blanks l.counter
