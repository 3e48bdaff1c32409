use Rattle.transcripts.specs.Counted.{Wrote}
use Rattle.fact_books.specs.Sweep.{values_of}
use Rattle.book_commands.specs.Reporting.{values_text}
use Rattle.book_commands.specs.Texts.{AreTexts}
use Rattle.book_commands.proofs.reporting.write_values.Given as goal

-- the values of the ranks before this one are written
abbrev pub invariant-loop-rank : goal.invariant-loop-rank
invariant-loop-rank g l = record {
  written : Wrote g.W.Write.contents l.fn.out l.out (values_text l.spec (values_of l.outcomes l.numbers) l.rank);
  texts : AreTexts l.spec l.outcomes l.texts;
}
