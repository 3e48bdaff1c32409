use Rattle.shown_texts.proofs.PageLemmas.{page-narrow}
use Rattle.shown_texts.proofs.laws.small_pages_are_narrow.Goals as goal

pub returns : goal.returns
returns c = page-narrow
