use Rattle.std.proofs.Common.{◌≡◌, ◌++◌, flat_map, take}
use Rattle.shown_texts.specs.Pages.{further_reason}
use Rattle.shown_texts.proofs.ends.put_further_reasons.Given as goal

-- the reasons passed are put
abbrev pub invariant-loop-edge : goal.invariant-loop-edge
invariant-loop-edge l = l.line ≡ l.fn.line ++ flat_map (further_reason l.names) (take l.edge-index l.edges)
