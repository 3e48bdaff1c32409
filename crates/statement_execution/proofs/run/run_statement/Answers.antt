use Rattle.std.proofs.Common.{sym, ap, ◌∙◌}
use Rattle.row_tables.specs.Layers.{sight}
use Rattle.statement_evaluation.specs.Borrowed.{effect_at}
use Rattle.statement_execution.proofs.AloneLemmas.{writes-may}
use Rattle.statement_execution.proofs.run.run_statement.Goals as goal

-- a statement writes where it looks
pub write_each-requires : goal.write_each-requires
write_each-requires c =
    writes-may c.args.session c.args.statement.now c.args.store.now (sight c.args.session c.args.store.now) c.in-Told.events c.in-Told.writes c.requires
    (sym (ap effect_at c.in-Told.is) ∙ c.in_ok-fault.ensures)
