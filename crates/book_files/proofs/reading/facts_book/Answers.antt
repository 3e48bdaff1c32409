use Rattle.serde_json.specs.View.{view, items_view}
use Rattle.bound_specs.proofs.FileLemmas.{file-none}
use Rattle.book_files.proofs.BookLaws.{by-facts, spec-file}
use Rattle.book_files.proofs.reading.facts_book.Goals as goal

pub book_of_facts-requires : goal.book_of_facts-requires
book_of_facts-requires c =
    let text = c.in-Some.parts.text.now in
    record { unasked = file-none text c.in-Ok.spec (spec-file text c.in-Ok.spec c.in-Ok.ensures) }

pub returns-in-Ok : goal.returns-in-Ok
returns-in-Ok c =
    let parts = c.in-Some.parts in
    by-facts (view c.args.value.now) (record { facts = items_view parts.facts.now; text = parts.text.now })
    c.in-Ok.spec c.book_of_facts.result c.in-Some.ensures c.in-Ok.ensures c.book_of_facts.ensures
