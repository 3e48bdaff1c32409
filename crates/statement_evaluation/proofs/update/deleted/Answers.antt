use Rattle.std.proofs.Common.{◌≡◌, sym, ap, ◌∙◌, ◌∷◌, [], map, None}
use Rattle.events.specs.declared.event.Event.TheVariants.{Deleted}
use Rattle.lock_modes.specs.RowPlace.{RowPlace}
use Rattle.lock_modes.specs.Rows.{Tuple}
use Rattle.statement_evaluation.specs.Effect.{Gives, counted}
use Rattle.statement_evaluation.specs.Matched.{deleted}
use Rattle.statement_evaluation.proofs.update.deleted.Goals as goal

pub returns : goal.returns
returns c =
    let writes = c.in_ok-writes.writes in
    let is : Gives (Deleted c.len.result ∷ []) writes ≡ deleted c.args.found =
    ap (λ n. Gives (Deleted n ∷ []) writes) c.len.ensures
    ∙ ap (counted Deleted) (c.in_ok-writes.ensures ∙ ap (map (λ (e : RowPlace × Tuple). record { place = e.0; left = None })) c.as_slice.ensures)
    ∙ ap deleted (sym c.in-Some.is) in
    c.telling.ensures ∙ is
