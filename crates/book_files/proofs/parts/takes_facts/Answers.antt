use Rattle.std.proofs.Common.{sym, ◌∙◌}
use Rattle.book_files.proofs.PartLaws.{none-there, with-facts}
use Rattle.book_files.proofs.parts.takes_facts.Goals as goal

pub returns-in-Some : goal.returns-in-Some
returns-in-Some c = λ t.
    let part = c.in-Some.ensures in (
      part.0,
      part.1,
      λ found h. with-facts c.args.guess.now part.0 c.args.parts.now c.in-Some.facts found
          (none-there c.args.parts.now.facts (sym c.is_some.ensures ∙ c.if-is_some.false)) part.2 h,
    )
