use Rattle.std.proofs.Common.{IfOk, sym, subst}
use Rattle.std.proofs.lemmas.Result.{IfOk-weaker}
use Rattle.class_commands.specs.Classing.{AreCounted}
use Rattle.class_commands.proofs.SampleLemmas.{all-counted}
use Rattle.class_commands.proofs.classing.counted.Goals as goal

-- where no sample is asked for all orders are counted
pub returns-in-None-clause-found : goal.returns-in-None-clause-found
returns-in-None-clause-found g c =
    let x = c.args.explored in
    let filters = c.args.asked.filters.now in
    subst (λ s. IfOk c.found_in.result (AreCounted s x.kind x.tables.now x.spec.now.run filters c.args.asked.by)) (sym c.in-None.is)
    (IfOk-weaker c.found_in.result _ _ (all-counted x.kind x.tables.now x.spec.now.run filters c.args.asked.by) c.found_in.ensures.found)
