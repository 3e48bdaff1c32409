use Rattle.std.proofs.Common.{◌≡◌, ◌++◌, drop}
use Rattle.shown_texts.specs.Names.{all_numbered}
use Rattle.shown_texts.proofs.names.all_numbered.Given as goal

-- those passed and those left
abbrev pub invariant-loop-number : goal.invariant-loop-number
invariant-loop-number l = l.lines ++ all_numbered l.most l.number (drop l.number l.names) ≡ all_numbered l.most 0 l.names
