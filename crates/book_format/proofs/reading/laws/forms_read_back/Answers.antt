use Rattle.book_format.proofs.FormsBack.{forms-back}
use Rattle.book_format.proofs.reading.laws.forms_read_back.Goals as goal

pub returns : goal.returns
returns c = forms-back
