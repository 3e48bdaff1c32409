use Rattle.book_format.proofs.OneForm.{one-text}
use Rattle.book_format.proofs.laws.books_have_one_text.Goals as goal

pub returns : goal.returns
returns c = one-text
