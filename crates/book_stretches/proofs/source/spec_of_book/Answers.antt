use Rattle.std.proofs.Common.{◌∙◌, sym, subst}
use Rattle.bound_specs.specs.Binding.{IsFileOf}
use Rattle.bound_specs.proofs.FileLemmas.{one-file}
use Rattle.book_stretches.proofs.source.spec_of_book.Goals as goal

-- the spec is that of the book's text
pub returns-in-Ok : goal.returns-in-Ok
returns-in-Ok c =
    let text = c.as_bytes.ensures.value ∙ c.text.ensures in
    sym (one-file _ _ _ c.known.ensures.file (subst (λ t. IsFileOf t c.in-Ok.spec) text c.in-Ok.ensures.file))

-- the text binds to the book's spec
pub wants_memory-requires : goal.wants_memory-requires
wants_memory-requires c =
    let text = c.as_bytes.ensures.value ∙ c.text.ensures in
    c.in-Err.ensures.complete c.args.book.now.file (subst (λ t. IsFileOf t c.args.book.now.file) (sym text) c.known.ensures.file)
