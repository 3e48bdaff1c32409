use Rattle.std.proofs.Common.{◌∙◌, ◌++◌, ◌∷◌, [], ap, arith}
use Rattle.lock_queues.specs.Records.{Sessions, held_map}
use Rattle.lock_queues.proofs.HeldLemmas.{held-push}
use Rattle.lock_queues.proofs.held.reach.Goals as goal

pub loop-more-preserved : goal.loop-more-preserved
loop-more-preserved c =
    let before : Sessions = c.loop-more.sessions.items in
    record {
      same = ap held_map c.in_ok-push.ensures.items ∙ ap (λ m. held_map (before ++ m ∷ [])) c.new.ensures
          ∙ held-push before ∙ c.loop-more.invariant.same;
      long = (let a = c.loop-more.invariant.long in let b = c.in_ok-push.ensures.len in omega arith);
    }
