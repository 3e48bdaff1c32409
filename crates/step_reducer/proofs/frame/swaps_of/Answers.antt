use Rattle.std.proofs.Common.{sym, subst, IfOk}
use Rattle.step_reducer.specs.Reduced.{AreSwaps}
use Rattle.step_reducer.proofs.frame.swaps_of.Goals as goal

pub returns-clause-swaps : goal.returns-clause-swaps
returns-clause-swaps c =
    let r = c.args.world.now in
    subst (λ reduce. IfOk c.swaps_with.result (λ swaps. AreSwaps reduce r.file.run.steps r.world c.args.table.now c.args.block.now.left c.args.letter c.args.step swaps.items))
    (sym c.if-not-reduce.false) c.swaps_with.ensures.swaps
