use Rattle.book_format.proofs.TextLemmas.{text-read}
use Rattle.book_format.proofs.laws.texts_read_as_values.Goals as goal

pub returns : goal.returns
returns c = text-read
