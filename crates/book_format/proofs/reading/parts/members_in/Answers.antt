use Rattle.std.proofs.Common.{sym, ap, ◌∙◌}
use Rattle.book_format.specs.ReadingBooks.{count_if}
use Rattle.book_format.proofs.ItemLemmas.{count-members}
use Rattle.book_format.proofs.reading.parts.members_in.Goals as goal

pub returns-in-Some : goal.returns-in-Some
returns-in-Some c = c.len.ensures.len ∙ sym (count-members c.in-Some.members.now.entries) ∙ ap count_if c.in-Some.ensures
