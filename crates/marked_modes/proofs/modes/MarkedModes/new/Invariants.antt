use Rattle.std.proofs.Common.{◌≡◌, [], All, length}
use Rattle.marked_modes.specs.Kept.{IsBlank}
use Rattle.marked_modes.proofs.modes.MarkedModes.new.Given as goal

abbrev pub invariant-loop-resource : goal.invariant-loop-resource
invariant-loop-resource l = (length l.rows.list ≡ l._resource) × All IsBlank l.rows.list × (l.rows.marked ≡ [])
