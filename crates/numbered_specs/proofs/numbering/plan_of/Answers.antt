use Rattle.std.proofs.Common.{sym, ap, ◌∙◌, subst, Some}
use Rattle.std.specs.List.{Contains}
use Rattle.bound_statements.specs.Plan.{request}
use Rattle.numbered_specs.proofs.NumberLemmas.{asks-it, plan-push}
use Rattle.numbered_specs.proofs.numbering.plan_of.Goals as goal

pub number_at-resource-requires-clause-there : goal.number_at-resource-requires-clause-there
number_at-resource-requires-clause-there c =
    subst (Contains c.args.resources.now) (sym c.in_ok-to_resource.ensures)
    (asks-it c.args.resources.now c.args.statement.now c.loop-number.number _ c.in-Some.mode (sym c.in-Some.ensures) c.requires.there)

pub loop-number-preserved : goal.loop-number-preserved
loop-number-preserved c =
    rw (c.in_ok-push.ensures.items)
    (plan-push c.args.resources.now c.args.statement.now c.loop-number.number c.loop-number.requests.items
    (record { resource = c.number_at-resource.result; mode = c.in-Some.mode }) c.number_at-resource.ensures.known
    (sym c.in-Some.ensures ∙ ap (λ r. Some (request r c.in-Some.mode)) (sym (c.number_at-resource.ensures.same ∙ c.in_ok-to_resource.ensures)))
    c.loop-number.invariant)
