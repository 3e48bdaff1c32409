use Rattle.std.proofs.Common.{sym, ◌∙◌}
use Rattle.book_files.proofs.PartLaws.{none-there, outcomes-part, with-outcomes}
use Rattle.book_files.proofs.parts.takes_outcomes.Goals as goal

pub returns-in-Some : goal.returns-in-Some
returns-in-Some c = λ t.
    let part = outcomes-part c.args.guess.now c.args.reader.now c.outcomes_at.new.reader c.in-Some.outcomes c.in-Some.ensures in (
      part.0,
      part.1,
      λ found h. with-outcomes c.args.guess.now part.0 c.args.parts.now c.in-Some.outcomes found
          (none-there c.args.parts.now.outcomes (sym c.is_some.ensures ∙ c.if-is_some.false)) part.2 h,
    )
