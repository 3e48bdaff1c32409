use Rattle.std.proofs.Common.{ap, map}
use Rattle.marked_modes.specs.Held.{MarkedHolds, held_map}
use Rattle.marked_modes.proofs.HeldLemmas.{held-blank}
use Rattle.marked_modes.proofs.modes.MarkedModes.new.Goals as goal

pub returns : goal.returns
returns c =
    let rs = c.args.numbers.value.resources in
    let rows = c.loop-resource.rows in
    let kept = c.loop-resource.invariant in
    λ i. let x : MarkedHolds = record { resources = rs; now = held-blank rs rows.list kept.1 i; marked = ap (map (held_map rs)) kept.2 i } in x
