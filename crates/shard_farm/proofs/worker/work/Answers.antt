use Rattle.std.proofs.Common.{◌≡◌, sym, ℕ, Option, subst}
use Rattle.std.specs.Prelude.{MatchOption}
use Rattle.shard_board.specs.Changes.{IsClaim, with_new_refusal}
use Rattle.shard_farm.proofs.WorkLemmas.{begins, ends}
use Rattle.shard_farm.proofs.worker.work.Goals as goal

pub loop-init : goal.loop-init
loop-init g c = record { board = c.requires.ready.starting.board_is; serves = begins _ _ _ _ _ c.requires.ready c.requires.shards }

pub served_or_marked-requires-clause-claimed : goal.served_or_marked-requires-clause-claimed
served_or_marked-requires-clause-claimed g c = record {
  before = c.loop.worker.seat;
  serves = c.loop.invariant.serves;
  claim = subst (λ n. IsClaim n c.loop.worker.seat c.claim.new.seat c.in-Some-claim.number) (sym c.requires.shards) c.in-Some-claim.ensures.claimed;
}

pub returns-in_default-clause-worked : goal.returns-in_default-clause-worked
returns-in_default-clause-worked g c =
    let claimed = subst (λ (o : Option ℕ). MatchOption o (c.claim.new.seat ≡ with_new_refusal c.loop.worker.seat)
    (IsClaim c.args.board.now.shards c.loop.worker.seat c.claim.new.seat)) c.in_default.is c.claim.ensures.claimed in
    ends _ _ _ _ _ _ c.loop.invariant.serves claimed
