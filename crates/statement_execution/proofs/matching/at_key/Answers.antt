use Rattle.std.proofs.Common.{sym, ap, ◌∙◌, cond, Some, [], ◌∷◌, ◌++◌}
use Rattle.row_tables.specs.Layers.{sight}
use Rattle.statement_execution.proofs.SeenLemmas.{matching-absent, matching-fault, matching-tested}
use Rattle.statement_execution.proofs.matching.at_key.Goals as goal

-- no row
pub returns-in_default : goal.returns-in_default
returns-in_default g c =
    ap Some c.new-found.ensures ∙ sym (matching-absent c.args.table c.args.key.now (sight c.args.session (g.S.Sight.layers c.args.rows)) c.args.condition.now
    (sym c.in_default.ensures))

pub returns-in_default-holds : goal.returns-in_default-holds
returns-in_default-holds g c =
    sym (matching-fault c.args.table c.args.key.now (sight c.args.session (g.S.Sight.layers c.args.rows)) c.args.condition.now c.in-Some.row.now (sym c.in-Some.ensures)
    (sym c.in_default-holds.ensures))

-- the one row
pub returns : goal.returns
returns g c =
    ap Some (c.in_ok-push_if.ensures.pushed
    ∙ (λ i. c.new-found.ensures i ++ cond c.in-Some-holds.passes (c.new.ensures i ∷ []) []))
    ∙ sym (matching-tested c.args.table c.args.key.now (sight c.args.session (g.S.Sight.layers c.args.rows)) c.args.condition.now c.in-Some.row.now c.in-Some-holds.passes
    (sym c.in-Some.ensures) (sym c.in-Some-holds.ensures))
