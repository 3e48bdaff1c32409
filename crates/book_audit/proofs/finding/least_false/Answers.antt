use Rattle.std.proofs.Common.{◌+◌, sym, length, take, get_or}
use Rattle.std.proofs.lemmas.List.Folds.{list_any_more}
use Rattle.fact_books.specs.declared.run.Run.{Run}
use Rattle.fact_books.specs.declared.run.Tag.TheVariants.{Ran}
use Rattle.fact_books.specs.Runs.{has}
use Rattle.fact_books.proofs.RunLemmas.{AllSound-at}
use Rattle.book_audit.specs.Findings.{said, with_said}
use Rattle.book_audit.proofs.Least.{least-same}
use Rattle.book_audit.proofs.finding.least_false.Goals as goal

pub with_run-requires-clause-sound : goal.with_run-requires-clause-sound
with_run-requires-clause-sound c =
    let d : Run = record { first = 0; end = 0; tag = Ran 0 } in
    AllSound-at (length c.args.outcomes.now) c.args.runs.now c.loop-i.i d c.loop-i-test.true c.requires.sound

pub loop-i-preserved : goal.loop-i-preserved
loop-i-preserved c =
    let d : Run = record { first = 0; end = 0; tag = Ran 0 } in
    let table = c.args.outcomes.now in
    let runs = c.args.runs.now in
    let i = c.loop-i.i in
    record {
      ground = c.in_ok-least.ensures.ground;
      least = least-same c.args.spec.now.run (with_said (said table (take i runs)) table (get_or runs i d)) (said table (take (i + 1) runs)) c.in_ok-least.least
          (λ r fact. sym (list_any_more (has table (r, fact)) runs i d c.loop-i-test.true))
          (c.in_ok-least.ensures.least (said table (take i runs)) c.loop-i.invariant.least);
    }
