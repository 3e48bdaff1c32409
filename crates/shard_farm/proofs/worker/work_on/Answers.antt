use Rattle.std.proofs.Common.{◌≡◌, ◌∙◌, sym, ℕ, Option, subst}
use Rattle.std.specs.Prelude.{MatchOption}
use Rattle.shard_board.specs.Changes.{IsClaim, with_new_refusal}
use Rattle.shard_farm.proofs.WorkLemmas.{may-serve, served-next, marked-next, ends}
use Rattle.shard_farm.proofs.worker.work_on.Goals as goal

-- the walk is not begun
pub returns-in_default-clause-again : goal.returns-in_default-clause-again
returns-in_default-clause-again g c = λ _. marked-next _ _ _ _ _ c.requires.claimed

-- the shard that was claimed last may be delivered
pub serve-is_served-requires-clause-may : goal.serve-is_served-requires-clause-may
serve-is_served-requires-clause-may g c = may-serve _ _ _ _ _ c.requires.runnable.few c.loop.invariant.claimed

-- memory is wanted for a shard
pub returns-then-not-is_served-clause-again : goal.returns-then-not-is_served-clause-again
returns-then-not-is_served-clause-again g c = λ _. served-next _ _ _ _ _ _ _ c.loop.invariant.claimed c.serve-is_served.ensures.served

-- there is no more to claim
pub returns-in_default-claim-clause-worked : goal.returns-in_default-claim-clause-worked
returns-in_default-claim-clause-worked g c =
    let seat = c.serve-is_served.new.seat in
    let claimed = subst (λ (o : Option ℕ). MatchOption o (c.claim.new.seat ≡ with_new_refusal seat)
    (IsClaim c.args.board.now.shards seat c.claim.new.seat)) c.in_default-claim.is c.claim.ensures.claimed in
    λ _. ends _ _ _ _ _ _ (served-next _ _ _ _ _ _ _ c.loop.invariant.claimed c.serve-is_served.ensures.served) claimed

pub loop-preserved : goal.loop-preserved
loop-preserved g c =
    let i = c.loop.invariant in
    record {
      board = c.claim.ensures.same ∙ (c.serve-is_served.ensures.same ∙ i.board);
      claimed = record {
        before = c.serve-is_served.new.seat;
        serves = served-next _ _ _ _ _ _ _ i.claimed c.serve-is_served.ensures.served;
        claim = subst (λ n. IsClaim n c.serve-is_served.new.seat c.claim.new.seat c.in-Some-claim.next) (sym c.requires.shards) c.in-Some-claim.ensures.claimed;
      };
      walk = c.serve-is_served.ensures.walk c.if-not-is_served.false;
    }
