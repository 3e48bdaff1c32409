use Rattle.std.proofs.Common.{◌≡◌, suc, ◌-◌, subst, take, arith}
use Rattle.fact_books.specs.Runs.{firsts, AllTo}
use Rattle.fact_books.proofs.AddLemmas.{front-low}
use Rattle.fact_books.proofs.adding.ended_before.Goals as goal

pub returns-then-last-rank-2-clause-low : goal.returns-then-last-rank-2-clause-low
returns-then-last-rank-2-clause-low c =
    let n = c.loop-count.count in
    let some : suc (n - 1) ≡ n = omega (arith, c.loop-count-test.true) in
    subst (λ m. AllTo c.args.rank (firsts (take m c.args.runs.now))) some
    (front-low c.args.runs.now (n - 1) c.args.rank _ c.requires (omega (arith, c.loop-count.invariant, c.loop-count-test.true)) c.if-last-rank.true)
