use Rattle.std.proofs.Common.{◌∙◌, sym, ap, subst}
use Rattle.bound_specs.specs.Spec.{SpecFile}
use Rattle.shard_board.specs.Shown.{ShownBoard}
use Rattle.shard_farm.specs.Working.{AreFactsAt}
use Rattle.shard_farm.proofs.WorkLemmas.{not_served, delivers-but-for-memory}
use Rattle.shard_farm.proofs.worker.serve.Goals as goal

-- the book is of the board's spec, so that the delivery is refused for want of memory alone
pub wants_memory-requires : goal.wants_memory-requires
wants_memory-requires g c =
    let same = c.in-Ok.ensures.of_spec ∙ (c.requires.file ∙ ap (λ (b : ShownBoard). b.file) (sym c.requires.board)) in
    delivers-but-for-memory c.in-Err.refused.kind _ _ c.args.number _ (ap (λ (f : SpecFile). f.text) same) c.requires.may c.in-Err.ensures.refused

pub returns-in-Err-clause-served : goal.returns-in-Err-clause-served
returns-in-Err-clause-served g c =
    not_served c.args.plan.reduce c.args.board.now.file.run c.args.plan.shards.now c.in-Err.refused.kind _ _ c.args.number _ c.in-Err.ensures.refused

pub returns-in-Ok-deliver-clause-served : goal.returns-in-Ok-deliver-clause-served
returns-in-Ok-deliver-clause-served g c =
    let are = subst (λ (f : SpecFile). AreFactsAt c.args.plan.reduce f.run c.args.plan.shards.now c.args.number c.in-Ok.book.facts)
    c.requires.file c.in-Ok.ensures.facts in
    (c.in-Ok.book.facts, (c.in-Ok-deliver._receipt, (c.in-Ok-deliver.ensures.turn, are)))
