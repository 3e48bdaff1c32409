use Rattle.std.proofs.Common.{subst, ◌<◌, ◌≤◌, Some, ◌⊎◌, ⊎_elim, arith}
use Rattle.fact_books.specs.Runs.{fact_in}
use Rattle.book_audit.specs.Grounds.{IsTrueUntil}
use Rattle.book_audit.proofs.ground.Ground.first_false.Goals as goal

pub loop-rank-preserved : goal.loop-rank-preserved
loop-rank-preserved c =
    let rank = c.loop-rank.rank in
    let inv = c.loop-rank.invariant in
    let until : IsTrueUntil c.args.spec.now.run (fact_in c.args.outcomes.now c.args.run.tag) rank (Some c.in-Some.after) =
    subst (IsTrueUntil c.args.spec.now.run (fact_in c.args.outcomes.now c.args.run.tag) rank) c.in-Some.is c.in_ok-after.ensures.answer in
    let more = until.0 in
    let from = inv.from in
    record {
      ground = c.in_ok-after.ensures.ground;
      from = omega (arith, from, more);
      before = λ r le lt. (
          let cases : (r < rank) ⊎ (rank ≤ r) = grind arith in
          ⊎_elim (λ h. inv.before r le h) (λ h. until.1 r h lt) cases);
    }

pub returns-clause-answer : goal.returns-clause-answer
returns-clause-answer c = λ r le lt. c.loop-rank.invariant.before r le (omega (arith, lt, c.loop-rank-test.false))
