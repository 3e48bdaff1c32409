use Rattle.std.proofs.Common.{◌<◌, sym, subst, length}
use Rattle.machine_model.specs.Outcome.{IsOutcomeOf}
use Rattle.transcripts.proofs.Writing.{prints-stopped}
use Rattle.fact_books.specs.Sweep.{values_of}
use Rattle.fact_books.proofs.FillLemmas.{below-at}
use Rattle.book_commands.proofs.ReportLemmas.{value-at, value-counted, value-stopped, value-written}
use Rattle.book_commands.proofs.reporting.write_values.Goals as goal

-- each number has its outcome
pub write_value-requires-clause-inside : goal.write_value-requires-clause-inside
write_value-requires-clause-inside g c =
    below-at (length c.args.outcomes.now) c.args.numbers.now c.loop-rank.rank 0 c.loop-rank-test.true c.requires.numbered

-- which is the value of the rank
pub write_value-requires-clause-own : goal.write_value-requires-clause-own
write_value-requires-clause-own g c =
    let table = c.args.outcomes.now in
    let numbers = c.args.numbers.now in
    let r = c.loop-rank.rank in
    let inside : r < length (values_of table numbers) = subst (λ n. r < n) (sym (value-counted table numbers)) c.loop-rank-test.true in
    subst (IsOutcomeOf c.args.spec.now.run) (value-at table numbers r c.loop-rank-test.true) (c.requires.own r inside)

-- a value is not written
pub returns-in_err-write_value : goal.returns-in_err-write_value
returns-in_err-write_value g c =
    let table = c.args.outcomes.now in
    let numbers = c.args.numbers.now in
    let r = c.loop-rank.rank in
    prints-stopped _ _ _ _ _
    (value-stopped g.W.Write.contents _ _ c.args.spec.now (values_of table numbers) _ r (length numbers) _ c.loop-rank-test.true
    (sym (value-at table numbers r c.loop-rank-test.true)) c.loop-rank.invariant.written c.in_err-write_value.ensures.written)
    c.from_residual.ensures.0

-- one value more
pub loop-rank-preserved : goal.loop-rank-preserved
loop-rank-preserved g c =
    let table = c.args.outcomes.now in
    let numbers = c.args.numbers.now in
    let r = c.loop-rank.rank in
    record {
      written =
          value-written g.W.Write.contents _ _ c.args.spec.now (values_of table numbers) _ r _ (sym (value-at table numbers r c.loop-rank-test.true))
          c.loop-rank.invariant.written c.in_ok-write_value.ensures.written;
      texts = c.in_ok-write_value.ensures.texts;
    }
