use Rattle.std.proofs.Common.{◌≡◌, sym, ap, ◌∙◌, subst, ℕ}
use Rattle.std.specs.Result.{IfOk}
use Rattle.row_tables.specs.Layers.{sight}
use Rattle.statement_evaluation.specs.Effect.{next_number, numbered}
use Rattle.statement_execution.proofs.SeenLemmas.{named-table}
use Rattle.statement_execution.proofs.insert.numbered.Goals as goal

pub returns : goal.returns
returns g c =
    let t = c.args.table in
    subst (λ (n : ℕ). IfOk c.numbered_from.result (λ writes. writes ≡ numbered t n c.args.new.now))
    (c.next_number.ensures ∙ sym (ap (next_number 1) (named-table t (sight c.args.session (g.S.Sight.layers c.args.rows)))))
    c.numbered_from.ensures
