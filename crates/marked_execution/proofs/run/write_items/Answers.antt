use Rattle.std.proofs.Common.{◌≡◌, sym, ap, ◌∙◌, subst, ◌∷◌, List}
use Rattle.std.specs.Vec.Iter.{into_iter_items}
use Rattle.lock_modes.specs.Rows.{Write}
use Rattle.row_tables.specs.Layers.{wrote}
use Rattle.marked_rows.specs.Cells.{MarkedRows}
use Rattle.statement_execution.specs.Run.{wrote_each, WritesAlone}
use Rattle.statement_execution.proofs.AloneLemmas.{WritesAlone-wrote}
use Rattle.marked_execution.proofs.run.write_items.Goals as goal

-- the write that is done was the first of those left
pub loop-write-preserved : goal.loop-write-preserved
loop-write-preserved c =
    let session = c.args.session in
    let w = c.in-Some.write in
    let rest = into_iter_items c.next.new.self in
    let rows : MarkedRows = c.loop-write.rows in
    let all : into_iter_items c.loop-write.write-iterator ≡ w ∷ rest = c.in-Some.ensures.steps.0 in
    let alone : WritesAlone session (w ∷ rest) rows.now = subst (λ (ws : List Write). WritesAlone session ws rows.now) all c.loop-write.invariant.alone in
    let after : c.write.new.self ≡ record rows { now = wrote session w.place w.left rows.now } = c.in_ok-write.ensures.written
    ∙ λ i. record rows { now = wrote session (c.into_parts-table.ensures.place i) (c.into_parts-table.ensures.left i) rows.now } in
    record {
      alone = subst (λ (m : MarkedRows). WritesAlone session rest m.now) (sym after) (WritesAlone-wrote session w.place w.left rest rows.now alone.1);
      left = ap (λ (m : MarkedRows). wrote_each session rest m.now) after ∙ ap (λ ws. wrote_each session ws rows.now) (sym all) ∙ c.loop-write.invariant.left;
      marked = ap (λ (m : MarkedRows). m.marked) after ∙ c.loop-write.invariant.marked;
    }
