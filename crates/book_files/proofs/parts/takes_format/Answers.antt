use Rattle.std.proofs.Common.{sym, ◌∙◌}
use Rattle.book_files.proofs.PartLaws.{none-there, with-format}
use Rattle.book_files.proofs.parts.takes_format.Goals as goal

pub returns-in-Some : goal.returns-in-Some
returns-in-Some c = λ t.
    let part = c.in-Some.ensures in (
      part.0,
      part.1,
      λ found h. with-format c.args.guess.now part.0 c.args.parts.now c.in-Some.format found
          (none-there c.args.parts.now.format (sym c.is_some.ensures ∙ c.if-is_some.false)) part.2 h,
    )
