use Rattle.std.proofs.Common.{◌≡◌, refl, subst}
use Rattle.std.specs.Result.{IfOk}
use Rattle.lock_modes.specs.Rows.{Rows'}
use Rattle.row_tables.proofs.LayersLemmas.{sight-only, only-alone}
use Rattle.statement_evaluation.specs.Borrowed.{effect_at}
use Rattle.statement_evaluation.specs.Effect.{effect}
use Rattle.marked_execution.proofs.run.effect_in.Goals as goal

-- nobody else has written in what is left
pub effect_of-requires : goal.effect_of-requires
effect_of-requires c = λ k. ((refl, tt), λ p h. only-alone c.args.session c.args.rows.now.now p)

pub returns : goal.returns
returns c =
    subst (λ (rows : Rows'). IfOk c.effect_of.result (λ given. effect_at given ≡ effect c.args.statement.now rows))
    (sight-only c.args.session c.args.rows.now.now) c.effect_of.ensures
