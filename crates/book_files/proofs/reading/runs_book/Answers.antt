use Rattle.serde_json.specs.View.{view, items_view}
use Rattle.bound_specs.proofs.FileLemmas.{file-none}
use Rattle.book_files.proofs.BookLaws.{by-runs, spec-file}
use Rattle.book_files.proofs.reading.runs_book.Goals as goal

pub book_of_runs-requires : goal.book_of_runs-requires
book_of_runs-requires c =
    let text = c.in-Some.parts.text.now in
    record { unasked = file-none text c.in-Ok.spec (spec-file text c.in-Ok.spec c.in-Ok.ensures) }

pub returns-in-Ok : goal.returns-in-Ok
returns-in-Ok c =
    let parts = c.in-Some.parts in
    by-runs (view c.args.value.now) (record { facts = items_view parts.facts.now; outcomes = items_view parts.outcomes.now; text = parts.text.now })
    c.in-Ok.spec c.book_of_runs.result c.in-Some.ensures c.in-Ok.ensures c.book_of_runs.ensures
