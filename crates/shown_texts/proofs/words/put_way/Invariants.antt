use Rattle.std.proofs.Common.{◌≡◌, ◌++◌, flat_map, take}
use Rattle.shown_texts.specs.Words.{leading_on}
use Rattle.shown_texts.proofs.words.put_way.Given as goal

-- the sessions passed are put
abbrev pub invariant-loop-hop : goal.invariant-loop-hop
invariant-loop-hop l = l.line ≡ l.fn.line ++ flat_map (leading_on l.names) (take l.hop-index l.hops)
