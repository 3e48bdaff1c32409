use Rattle.std.proofs.Common.{◌∙◌, sym, ap, subst}
use Rattle.bound_specs.specs.Spec.{SpecFile}
use Rattle.bound_specs.proofs.FileLemmas.{file-none}
use Rattle.shard_farm.specs.Working.{AreRunnable}
use Rattle.shard_farm.proofs.WorkLemmas.{marked-next}
use Rattle.shard_farm.proofs.worker.served_or_marked.Goals as goal

-- the spec is not bound
pub returns-in_default-clause-again : goal.returns-in_default-clause-again
returns-in_default-clause-again g c = λ _. marked-next _ _ _ _ _ c.requires.claimed

-- the text is of one file
pub work_on-requires-clause-file : goal.work_on-requires-clause-file
work_on-requires-clause-file g c = c.in-Ok.ensures c.args.board.now.file c.requires.file

-- which is bound without levels
pub work_on-requires-clause-unasked : goal.work_on-requires-clause-unasked
work_on-requires-clause-unasked g c =
    ap (λ (f : SpecFile). f.asked) (c.in-Ok.ensures c.args.board.now.file c.requires.file)
    ∙ file-none c.args.plan.text.now c.args.board.now.file c.requires.file

pub work_on-requires-clause-runnable : goal.work_on-requires-clause-runnable
work_on-requires-clause-runnable g c =
    let same = c.in-Ok.ensures c.args.board.now.file c.requires.file in
    subst (λ (f : SpecFile). AreRunnable f.run c.args.plan.shards.now) (sym same) c.requires.runnable
