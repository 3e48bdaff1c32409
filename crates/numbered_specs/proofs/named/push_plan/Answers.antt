use Rattle.std.proofs.Common.{sym, ap, ◌∙◌, Some}
use Rattle.bound_statements.specs.Plan.{request}
use Rattle.numbered_specs.proofs.AskedLemmas.{asked-push}
use Rattle.numbered_specs.proofs.named.push_plan.Goals as goal

pub loop-number-preserved : goal.loop-number-preserved
loop-number-preserved c =
    rw (c.in_ok-push.ensures.items)
    (asked-push c.args.statement.now c.args.resources.now.items c.loop-number.number c.loop-number.resources.items c.in_ok-to_resource.field-0 c.in-Some._mode
    (sym c.in-Some.ensures ∙ ap (λ r. Some (request r c.in-Some._mode)) (sym c.in_ok-to_resource.ensures)) c.loop-number.invariant)
