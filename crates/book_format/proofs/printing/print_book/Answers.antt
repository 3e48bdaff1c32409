use Rattle.book_format.proofs.printing.print_book.Goals as goal

pub returns : goal.returns
returns g c = rw (← c.as_slice.ensures.value, ← c.as_slice-2.ensures.value, ← c.as_str.ensures.value) c.print_parts.ensures
