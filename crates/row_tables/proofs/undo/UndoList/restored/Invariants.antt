use Rattle.std.proofs.Common.{◌≡◌}
use Rattle.row_tables.specs.Overlay.{lay}
use Rattle.row_tables.proofs.RestoreLemmas.{put_back}
use Rattle.row_tables.proofs.undo.UndoList.restored.Given as goal

-- with the entries that are left put back too, all stands as before
abbrev pub invariant-loop-place : goal.invariant-loop-place
invariant-loop-place l = put_back l.place-iterator l.restored ≡ lay l.self l.rows
