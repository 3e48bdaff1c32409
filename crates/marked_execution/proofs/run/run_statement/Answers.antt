use Rattle.std.proofs.Common.{◌≡◌, sym, ap, ◌∙◌}
use Rattle.row_tables.specs.Layers.{sight}
use Rattle.statement_evaluation.specs.Effect.{Effect, Faults, effect}
use Rattle.statement_evaluation.specs.Borrowed.{effect_at}
use Rattle.statement_execution.specs.Run.{events_of}
use Rattle.statement_execution.proofs.AloneLemmas.{writes-may}
use Rattle.marked_execution.proofs.LogLemmas.{telling_each, telling_each-nil}
use Rattle.marked_execution.proofs.run.run_statement.Goals as goal

-- a statement writes where it looks
pub write_each-requires : goal.write_each-requires
write_each-requires c =
    let rows = c.args.rows.now.now in
    writes-may c.args.session c.args.statement.now rows (sight c.args.session rows) c.in-Told.events c.in-Told.writes c.requires.alone
    (sym (ap effect_at c.in-Told.is) ∙ c.in_ok-fault.ensures)

-- who is told nothing is told what there was
pub returns-in-Failed-clause-told : goal.returns-in-Failed-clause-told
returns-in-Failed-clause-told c =
    let rows = c.args.rows.now.now in
    let logs = c.args.logs.now.now in
    let fails : Faults c.in-Failed.fault ≡ effect c.args.statement.now (sight c.args.session rows) =
    sym (ap effect_at c.in-Failed.is) ∙ c.in_ok-fault.ensures in
    sym (telling_each-nil logs c.args.session) ∙ ap (λ (e : Effect). telling_each logs c.args.session (events_of e)) fails
