use Rattle.std.proofs.Common.{sym, subst}
use Rattle.range_progress.specs.Cutting.{AreCut}
use Rattle.range_progress.proofs.CutLemmas.{cut-more}
use Rattle.range_progress.proofs.cutting.shards_of.Goals as goal

-- a shard more
pub loop-at-preserved : goal.loop-at-preserved
loop-at-preserved c =
    subst (AreCut c.args.first c.shard_end-next.result c.args.end) (sym c.in_ok-push.ensures.items)
    (cut-more c.args.first c.loop-at.at c.shard_end-next.result c.args.end c.loop-at.shards.items c.shard_end-next.ensures c.loop-at.invariant)
