use Rattle.std.proofs.Common.{◌≡◌, ◌∙◌, ap, subst, IfOk, map}
use Rattle.row_tables.specs.Layers.{rows_of}
use Rattle.order_classes.specs.Shows.{seen, seen_by, unnumbered}
use Rattle.world_shows.specs.Parts.{at_zero}
use Rattle.world_shows.proofs.ReadLemmas.{zeros-unnumbered}
use Rattle.world_shows.proofs.reading.seen_in.Goals as goal

pub returns-in-None : goal.returns-in-None
returns-in-None c =
    let rows = c.args.world.now.world.rows in
    let same : map at_zero (rows_of c.in-Ok.number rows) ≡ seen (record { table = c.args.table.now; rows = rows_of c.args.number rows }) =
    zeros-unnumbered (rows_of c.in-Ok.number rows) ∙ ap (λ n. unnumbered (rows_of n rows)) c.in-Ok.ensures.1
    ∙ ap (λ key. seen_by key (rows_of c.args.number rows)) c.in-None.ensures in
    subst (λ all. IfOk c.unnumbered.result (λ given. given ≡ all)) same c.unnumbered.ensures
