use Rattle.std.proofs.Common.{◌≡◌, refl, sym, ap, ◌∙◌, subst, List}
use Rattle.std.specs.Option.{option_copied}
use Rattle.std.specs.Result.{IfOk}
use Rattle.lock_modes.specs.RowPlace.{RowPlace}
use Rattle.lock_modes.specs.Rows.{Tuple}
use Rattle.row_tables.specs.Layers.{sight, rows_of}
use Rattle.statement_evaluation.specs.Effect.{matching}
use Rattle.statement_execution.specs.Seen.{is_named, named, in_table}
use Rattle.statement_execution.proofs.SeenLemmas.{there, named-table}
use Rattle.statement_execution.proofs.matching.matching.Goals as goal

pub at_key-requires : goal.at_key-requires
at_key-requires g c =
    let place : RowPlace = (c.args.table, c.in-Some.key.now) in
    let alone = c.requires place (ap (λ o. is_named c.args.table (option_copied o) place) c.in-Some.is ∙ there c.args.table c.in-Some.key.now) in
    λ k. ((refl, tt), alone)

pub returns-in-None : goal.returns-in-None
returns-in-None g c =
    let rows = sight c.args.session (g.S.Sight.layers c.args.rows) in
    let all : in_table c.args.table (rows_of c.args.table rows) ≡ named c.args.table (option_copied c.args.key) rows =
    sym (named-table c.args.table rows) ∙ ap (λ o. named c.args.table (option_copied o) rows) (sym c.in-None.is) in
    subst (λ (es : List (RowPlace × Tuple)). IfOk c.matching_in.result (λ found. found ≡ matching c.args.condition.now es)) all c.matching_in.ensures
