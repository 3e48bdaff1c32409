use Rattle.std.proofs.Common.{◌≡◌, ◌==◌, true, false, replicate, set, sym, subst, arith}
use Rattle.lock_queues.specs.Search.{marks}
use Rattle.lock_queues.proofs.Walking.{one-marked}
use Rattle.lock_queues.proofs.told.first_row.Goals as goal

pub returns : goal.returns
returns c = λ a.
    subst (λ n. marks (set (replicate 256 false) n true) a ≡ (a == c.args.session)) (sym c.from.ensures) (one-marked 256 c.args.session a (omega arith))
