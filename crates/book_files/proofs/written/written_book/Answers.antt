use Rattle.bound_specs.proofs.FileLemmas.{file-none}
use Rattle.book_files.proofs.BookLaws.{spec-file}
use Rattle.book_files.proofs.written.written_book.Goals as goal

-- the spec is bound without levels
pub listed_in-requires : goal.listed_in-requires
listed_in-requires c =
    let text = c.as_str.result.now in
    record { unasked = file-none text c.in-Ok.spec (spec-file text c.in-Ok.spec c.in-Ok.ensures) }
