use Rattle.std.proofs.Common.{subst}
use Rattle.step_reducer.specs.Shardwise.{Shardwise}
use Rattle.fact_books.specs.Building.{AreFactsOf}
use Rattle.shard_farm.proofs.CrewLemmas.{found_at}
use Rattle.shard_farm.proofs.worker.book_of.Goals as goal

-- the walk stands at the shard, so that what is before it are the shard's ranks
pub returns-clause-facts : goal.returns-clause-facts
returns-clause-facts c = (
  _,
  (
    found_at _ _ _ c.requires.number,
    subst (λ (x : Shardwise). AreFactsOf x.reduce c.args.spec.now.run x.at x.end c.in-Ok-of_walk.book.facts) c.in-Ok.ensures c.in-Ok-of_walk.ensures.facts,
  ),
)
