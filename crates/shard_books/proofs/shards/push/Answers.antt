use Rattle.std.proofs.Common.{◌≡◌, sym, ap, subst}
use Rattle.fact_books.specs.Building.{Building, added, FactFits}
use Rattle.shard_books.specs.Gathering.{AreTold}
use Rattle.shard_books.proofs.ShardLemmas.{may-name, on-ok, said-fact, told-more}
use Rattle.shard_books.proofs.shards.push.Goals as goal

-- the number names the outcome that was told by it
pub push_known-requires-clause-name : goal.push_known-requires-clause-name
push_known-requires-clause-name c =
    may-name c.args.walk.now.told c.args.builder.now.known c.in-Ran.number c.told-outcome.result.now c.requires.known c.told-outcome.ensures

pub returns-in-Ran-clause-fits : goal.returns-in-Ran-clause-fits
returns-in-Ran-clause-fits c =
    let fact = said-fact c.args.walk.now.told c.args.run.said c.in-Ran.number c.told-outcome.result.now c.in-Ran.is c.told-outcome.ensures in
    on-ok c.push_known.result (λ is. subst FactFits (sym fact) c.known.ensures) c.push_known.ensures.ok

pub returns-in-Ran-clause-added : goal.returns-in-Ran-clause-added
returns-in-Ran-clause-added c =
    let fact = said-fact c.args.walk.now.told c.args.run.said c.in-Ran.number c.told-outcome.result.now c.in-Ran.is c.told-outcome.ensures in
    let after = c.push_known.new.self in
    on-ok c.push_known.result
    (λ is. subst (λ f. after ≡ record (added c.args.builder.now c.args.run.first c.args.run.end f) { known = after.known }) (sym fact) is)
    c.push_known.ensures.ok

pub returns-in-Ran-clause-known : goal.returns-in-Ran-clause-known
returns-in-Ran-clause-known c =
    on-ok c.push_known.result
    (λ is. told-more c.args.walk.now.told c.args.builder.now.known c.push_known.new.self.known c.in-Ran.number c.told-outcome.result.now
    c.requires.known c.told-outcome.ensures c.push_known.ensures.more)
    c.push_known.ensures.ok

-- a swap leaves what is known
pub returns-in-Swap-clause-known : goal.returns-in-Swap-clause-known
returns-in-Swap-clause-known c =
    on-ok c.push.result (λ is. subst (AreTold c.args.walk.now.told) (sym (ap (λ (b : Building). b.known) is)) c.requires.known) c.push.ensures.ok
