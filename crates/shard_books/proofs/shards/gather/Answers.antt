use Rattle.shard_books.proofs.ShardLemmas.{begun, grown, still-told}
use Rattle.shard_books.proofs.shards.gather.Goals as goal

pub runs-init : goal.runs-init
runs-init c = begun _ _ c.requires.whole c.requires.none c.requires.first c.requires.nothing

pub runs-preserved : goal.runs-preserved
runs-preserved c =
    grown c.args.walk.now c.runs.walk c.next_run.new.self _ c.in-Ok-Some.run' c.runs.builder _ c.requires.ready c.requires.bound c.runs.invariant
    c.in-Ok-Some.field-0-is c.in-Ok-Some.ensures.run c.in-Ok-Some.ensures.whole c.in_ok-push-in-Ok-Some.ensures.fits c.in_ok-push-in-Ok-Some.ensures.added
    c.next_run.ensures.front c.in_ok-push-in-Ok-Some.ensures.known

-- what was told stays told
pub push-requires-clause-known : goal.push-requires-clause-known
push-requires-clause-known c =
    still-told c.runs.walk.told c.next_run.new.self.told c.runs.builder.known c.next_run.ensures.front c.runs.invariant.known
