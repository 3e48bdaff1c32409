use Rattle.std.proofs.Common.{sym, ap, subst, ◌∙◌, [], get_or, All}
use Rattle.numbered_specs.specs.Numbers.{Numbers, plans_of}
use Rattle.marked_quiet.specs.Asked.{HasRequest}
use Rattle.marked_quiet.proofs.AskedLemmas.{plan-known}
use Rattle.marked_quiet.proofs.asking.plan_of.Goals as goal

pub returns-clause-known : goal.returns-clause-known
returns-clause-known c =
    let world = c.args.world.now in
    let is = c.plan.ensures ∙ ap (λ (n : Numbers). get_or (plans_of n.plans c.args.step) c.args.statement []) c.numbers.ensures in
    subst (All (HasRequest world.numbers.resources)) (sym is)
    (plan-known world.file.run world.numbers c.known.ensures.numbering c.args.step c.requires.step c.args.statement c.requires.statement)
