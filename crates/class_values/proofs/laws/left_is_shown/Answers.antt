use Rattle.class_values.proofs.Leaving.{sessions-same, tables-same}
use Rattle.class_values.proofs.laws.left_is_shown.Goals as goal

pub returns : goal.returns
returns c = record { tables = tables-same; sessions = sessions-same }
