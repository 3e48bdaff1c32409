use Rattle.std.proofs.Common.{◌≡◌, sym, ap, ◌∙◌, subst, [], ◌∷◌, inl, inr}
use Rattle.std.specs.Result.{IfOk}
use Rattle.row_tables.specs.Layers.{sight}
use Rattle.bound_statements.specs.declared.statement.Bound.{Bound}
use Rattle.events.specs.declared.event.Event.TheVariants.{Locked, Set}
use Rattle.statement_evaluation.specs.Effect.{Effect, effect, Gives, matching}
use Rattle.statement_evaluation.specs.Matched.{selected, updated, deleted}
use Rattle.statement_evaluation.specs.Borrowed.{effect_at}
use Rattle.statement_execution.specs.Seen.{named}
use Rattle.statement_execution.proofs.GivenLemmas.{effect-select, effect-update, effect-delete, effect-locked, effect-set, effect-begin, effect-commit}
use Rattle.statement_execution.proofs.GivenLemmas.{effect-rollback}
use Rattle.statement_execution.proofs.effects.effect_of.Goals as goal

pub returns-in_ok-found-in-Select : goal.returns-in_ok-found-in-Select
returns-in_ok-found-in-Select g c =
    let s = c.in-Select in
    let rows = sight c.args.session (g.S.Sight.layers c.args.rows) in
    let is : selected c.as_slice.result.now s.output c.in_ok-found-in-Select.found ≡ effect c.args.statement.now rows =
    (λ i. selected (c.as_slice.ensures i) s.output ((c.in_ok-found-in-Select.ensures
    ∙ ap (λ o. matching s.condition (named s.table o rows)) c.as_ref.ensures.value) i))
    ∙ sym (effect-select rows s.table s.key s.condition s.order s.output s.field-5) ∙ ap (λ (st : Bound). effect st rows) (sym s.is) in
    subst (λ (e : Effect). IfOk c.selected.result (λ given. effect_at given ≡ e)) is c.selected.ensures

pub returns-in_ok-found-in-Update : goal.returns-in_ok-found-in-Update
returns-in_ok-found-in-Update g c =
    let s = c.in-Update in
    let rows = sight c.args.session (g.S.Sight.layers c.args.rows) in
    let is : updated c.as_slice-in-Update.result.now c.in_ok-found-in-Update.found ≡ effect c.args.statement.now rows =
    (λ i. updated (c.as_slice-in-Update.ensures i) ((c.in_ok-found-in-Update.ensures
    ∙ ap (λ o. matching s.condition (named s.table o rows)) c.as_ref-in-Update.ensures.value) i))
    ∙ sym (effect-update rows s.table s.key s.sets s.condition) ∙ ap (λ (st : Bound). effect st rows) (sym s.is) in
    subst (λ (e : Effect). IfOk c.updated.result (λ given. effect_at given ≡ e)) is c.updated.ensures

pub returns-in_ok-found-in-Delete : goal.returns-in_ok-found-in-Delete
returns-in_ok-found-in-Delete g c =
    let s = c.in-Delete in
    let rows = sight c.args.session (g.S.Sight.layers c.args.rows) in
    let is : deleted c.in_ok-found-in-Delete.found ≡ effect c.args.statement.now rows =
    ap deleted (c.in_ok-found-in-Delete.ensures ∙ ap (λ o. matching s.condition (named s.table o rows)) c.as_ref-in-Delete.ensures.value)
    ∙ sym (effect-delete rows s.table s.key s.condition) ∙ ap (λ (st : Bound). effect st rows) (sym s.is) in
    subst (λ (e : Effect). IfOk c.deleted.result (λ given. effect_at given ≡ e)) is c.deleted.ensures

pub returns-in-Lock : goal.returns-in-Lock
returns-in-Lock g c =
    c.telling.ensures ∙ (ap (Gives (Locked ∷ [])) c.new.ensures ∙ sym (effect-locked (sight c.args.session (g.S.Sight.layers c.args.rows)) c.in-Lock.field-0 c.in-Lock.field-1 c.in-Lock.field-2)
    ∙ ap (λ (st : Bound). effect st (sight c.args.session (g.S.Sight.layers c.args.rows))) (sym c.in-Lock.is))

pub returns-in-SetVariable : goal.returns-in-SetVariable
returns-in-SetVariable g c =
    c.telling-in-SetVariable.ensures ∙ (ap (Gives (Set ∷ [])) c.new-in-SetVariable.ensures ∙ sym (effect-set (sight c.args.session (g.S.Sight.layers c.args.rows)))
    ∙ ap (λ (st : Bound). effect st (sight c.args.session (g.S.Sight.layers c.args.rows))) (sym c.in-SetVariable.is))

pub returns-in-Begin : goal.returns-in-Begin
returns-in-Begin g c =
    let rows = sight c.args.session (g.S.Sight.layers c.args.rows) in
    c.nothing.ensures
    ∙ elim c.in-Begin.is [
      | inl e ↦ sym (effect-begin rows e.0) ∙ ap (λ (st : Bound). effect st rows) (sym e.1)
      | inr more ↦ elim more [
        | inl e ↦ sym (effect-commit rows) ∙ ap (λ (st : Bound). effect st rows) (sym e)
        | inr e ↦ sym (effect-rollback rows) ∙ ap (λ (st : Bound). effect st rows) (sym e)
      ]
    ]
