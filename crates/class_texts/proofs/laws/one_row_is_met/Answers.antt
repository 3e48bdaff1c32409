use Rattle.class_texts.proofs.MeetLemmas.{row-is-met}
use Rattle.class_texts.proofs.laws.one_row_is_met.Goals as goal

pub returns : goal.returns
returns c = row-is-met
