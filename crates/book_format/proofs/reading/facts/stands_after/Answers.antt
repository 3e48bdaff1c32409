use Rattle.std.proofs.Common.{sym, ap, ◌∙◌}
use Rattle.std.specs.Prelude.{option_map}
use Rattle.book_format.specs.ReadingFacts.{entry_of, entries_of}
use Rattle.book_format.proofs.Steps.{last-entries, last-under, under-last}
use Rattle.book_format.proofs.reading.facts.stands_after.Goals as goal

pub returns-in-Some : goal.returns-in-Some
returns-in-Some c =
    let es = entries_of c.args.before.now in
    let is = last-entries c.args.before.now ∙ ap (option_map entry_of) (sym c.in-Some.ensures.value) in (
      λ h. last-under es (entry_of c.in-Some.last.now) (entry_of c.args.fact.now) is c.order.result (sym c.order.ensures) (sym c.is_lt.ensures ∙ h),
      λ after. c.is_lt.ensures ∙ under-last es (entry_of c.in-Some.last.now) (entry_of c.args.fact.now) is c.order.result (sym c.order.ensures) after,
    )
