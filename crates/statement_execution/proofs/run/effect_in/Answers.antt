use Rattle.std.proofs.Common.{◌≡◌, refl, ap, sym, ◌∙◌, subst}
use Rattle.std.specs.Result.{IfOk}
use Rattle.lock_modes.specs.Rows.{Rows'}
use Rattle.row_tables.specs.Layers.{Layers, IsOnlyWriterAt, sight}
use Rattle.row_tables.proofs.LayersLemmas.{sight-only, only-alone}
use Rattle.statement_evaluation.specs.Borrowed.{effect_at}
use Rattle.statement_evaluation.specs.Effect.{effect}
use Rattle.statement_execution.proofs.AloneLemmas.{alone-may}
use Rattle.statement_execution.proofs.run.effect_in.Goals as goal

-- nobody else has written in what is left
pub effect_of-requires : goal.effect_of-requires
effect_of-requires c = λ k. (
  (refl, tt),
  λ p h. subst (λ (l : Layers). IsOnlyWriterAt c.args.session p l) (sym c.in_ok-only-in-Select.ensures)
      (only-alone c.args.session c.args.store.now p),
)

pub returns-in_ok-only-in-Select : goal.returns-in_ok-only-in-Select
returns-in_ok-only-in-Select c =
    let session = c.args.session in
    let seen : sight session c.in_ok-only-in-Select.only ≡ sight session c.args.store.now =
    ap (sight session) c.in_ok-only-in-Select.ensures ∙ sight-only session c.args.store.now in
    subst (λ (rows : Rows'). IfOk c.effect_of.result (λ given. effect_at given ≡ effect c.args.statement.now rows)) seen c.effect_of.ensures

pub effect_of-requires-in_default : goal.effect_of-requires-in_default
effect_of-requires-in_default c = λ k. (
  (refl, tt),
  alone-may c.args.session c.args.statement.now c.args.store.now c.requires c.in_default.not-Select,
)
