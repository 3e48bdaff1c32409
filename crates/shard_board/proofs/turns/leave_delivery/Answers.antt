use Rattle.std.proofs.Common.{refl, arith}
use Rattle.shard_board.proofs.StepLemmas.{ends}
use Rattle.shard_board.proofs.turns.leave_delivery.Goals as goal

pub fetch_add-requires : goal.fetch_add-requires
fetch_add-requires g c = let t = c.requires.table in let r = c.requires.ready in
    (t.0, omega arith, ends _ _ _ _ g.E.Said.entry _ r.book r.live r.alone r.holding r.by r.right refl)
