use Rattle.std.proofs.Common.{◌≡◌, sym, ap, ◌∙◌, subst, ◌∷◌, List}
use Rattle.std.specs.Vec.Iter.{into_iter_items}
use Rattle.lock_modes.specs.Rows.{Write}
use Rattle.row_tables.specs.Layers.{Layers, wrote}
use Rattle.statement_execution.specs.Run.{wrote_each, WritesAlone}
use Rattle.statement_execution.proofs.AloneLemmas.{WritesAlone-wrote}
use Rattle.statement_execution.proofs.run.write_items.Goals as goal

-- the write that is done was the first of those left
pub loop-write-preserved : goal.loop-write-preserved
loop-write-preserved c =
    let session = c.args.session in
    let w = c.in-Some.write in
    let rest = into_iter_items c.next.new.self in
    let own = c.loop-write.store in
    let all : into_iter_items c.loop-write.write-iterator ≡ w ∷ rest = c.in-Some.ensures.steps.0 in
    let alone : WritesAlone session (w ∷ rest) own = subst (λ (ws : List Write). WritesAlone session ws own) all c.loop-write.invariant.0 in
    let after : c.write.new.self ≡ wrote session w.place w.left own = c.in_ok-write.ensures.ok
    ∙ λ i. wrote session (c.into_parts-table.ensures.place i) (c.into_parts-table.ensures.left i) own in (
      subst (λ (l : Layers). WritesAlone session rest l) (sym after) (WritesAlone-wrote session w.place w.left rest own alone.1),
      ap (wrote_each session rest) after ∙ ap (λ ws. wrote_each session ws own) (sym all) ∙ c.loop-write.invariant.1,
    )
