use Rattle.std.proofs.Common.{◌≡◌, ◌++◌, map, drop}
use Rattle.shown_texts.specs.Names.{cut, some_numbered}
use Rattle.shown_texts.proofs.names.some_numbered.Given as goal

-- those passed and those left
abbrev pub invariant-loop-number : goal.invariant-loop-number
invariant-loop-number l =
    l.lines ++ some_numbered l.most (map (cut l.most) l.names) l.number (drop l.number l.names)
    ≡ some_numbered l.most (map (cut l.most) l.names) 0 l.names
