use Rattle.std.proofs.Common.{rules, sym, subst, List}
use Rattle.rank_facts.specs.declared.shard.Shard.{Shard}
use Rattle.shard_board.specs.Changes.{IsPlanOf}
use Rattle.shard_farm.specs.Farming.{AreShardFacts}
use Rattle.range_commands.proofs.CutLemmas.{cut-facts, cut-plan, of-plan}
use Rattle.range_commands.proofs.ranges.book_of_range.Goals as goal

-- the facts of the shards are those of the range
pub returns-in-Ok-clause-facts : goal.returns-in-Ok-clause-facts
returns-in-Ok-clause-facts g c =
    cut-facts c.args.reduce c.args.spec.now.run c.args.first c.args.end c.in_ok-shards.shards.items c.in-Ok.book.facts c.in_ok-shards.ensures
    (subst (λ shards. AreShardFacts c.args.reduce c.args.spec.now.run shards c.in-Ok.book.facts) c.as_slice.ensures.value c.in-Ok.ensures.facts)

-- they are a lawful plan
pub not_run-requires : goal.not_run-requires
not_run-requires g c =
    of-plan c.args.reduce c.args.spec.now _ _ c.in-Err.error
    (subst (λ (l : List Shard). IsPlanOf c.args.spec.now.run l c.number.result) (sym c.as_slice.ensures.value)
    (cut-plan c.args.spec.now.run c.args.first c.args.end c.in_ok-shards.shards.items c.number.result (search rules) c.in_ok-shards.ensures
    c.number.ensures.few.0 c.number.ensures.few.1))
    c.in-Err.ensures.refused
