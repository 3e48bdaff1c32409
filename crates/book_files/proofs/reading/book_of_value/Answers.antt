use Rattle.serde_json.specs.View.{view}
use Rattle.book_files.proofs.BookLaws.{by-version}
use Rattle.book_files.proofs.reading.book_of_value.Goals as goal

pub returns-in-Some : goal.returns-in-Some
returns-in-Some c = by-version (view c.args.value.now) c.in-Some.version c.book_of_version.result c.in-Some.ensures c.book_of_version.ensures
