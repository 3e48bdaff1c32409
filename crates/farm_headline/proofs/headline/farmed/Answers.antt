use Rattle.std.proofs.Common.{subst}
use Rattle.shard_board.specs.Changes.{IsPlanOf}
use Rattle.shard_farm.specs.Farming.{AreShardFacts}
use Rattle.farm_headline.proofs.headline.farmed.Goals as goal

pub returns-in-Ok : goal.returns-in-Ok
returns-in-Ok g c =
    let plan = c.args.plan.now in
    let run = c.args.spec.now.run in (
      subst (λ shards. IsPlanOf run shards plan.workers) c.as_slice.ensures.value c.in-Ok.ensures.lawful,
      c.in-Ok.ensures.started,
      c.in-Ok.ensures.of_spec,
      subst (λ shards. AreShardFacts plan.reduce run shards c.in-Ok.book.facts) c.as_slice.ensures.value c.in-Ok.ensures.facts,
    )
