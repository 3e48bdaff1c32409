use Rattle.std.proofs.Common.{◌≡◌, ◌++◌, option_map, drop}
use Rattle.serde_json.specs.View.{view, items_view}
use Rattle.transcripts.specs.JsonReading.{cell_in, each_in, list_in}
use Rattle.transcripts.proofs.of_value.row.Given as goal

-- what was read, before what is still to be read, is the whole
abbrev pub invariant-loop-cell : goal.invariant-loop-cell
invariant-loop-cell l =
    option_map (λ more. l.values.items ++ more) (each_in cell_in (items_view (drop l.cell-index l.cell-items)))
    ≡ list_in cell_in (view l.value)
