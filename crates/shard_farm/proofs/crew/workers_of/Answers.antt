use Rattle.std.proofs.Common.{All, List, length, ap, subst, sym, arith}
use Rattle.std.proofs.lemmas.List.Elements.{All-push}
use Rattle.shard_board.specs.Shown.{ShownSeat}
use Rattle.shard_farm.specs.Working.{IsReady, IsStarting}
use Rattle.shard_farm.proofs.CrewLemmas.{all_rest}
use Rattle.shard_farm.proofs.crew.workers_of.Goals as goal

pub loop-seat-preserved : goal.loop-seat-preserved
loop-seat-preserved c =
    let i = c.loop-seat.invariant in
    let all = c.in-Some.ensures.steps.0 in
    let rest = all_rest (IsStarting c.args.board.now) _ _ _ all i.rest in
    record {
      many = (let m = i.many in let l = ap (λ (s : List ShownSeat). length s) all in let p = c.in_ok-push.ensures.len in omega arith);
      rest = rest.1;
      ready = subst (All (IsReady c.args.board.now)) (sym c.in_ok-push.ensures.items) (All-push (IsReady c.args.board.now) _ _ i.ready c.in_ok-ready.ensures);
    }
