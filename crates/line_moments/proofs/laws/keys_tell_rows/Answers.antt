use Rattle.line_moments.proofs.Leaving.{keys-tell}
use Rattle.line_moments.proofs.laws.keys_tell_rows.Goals as goal

pub returns : goal.returns
returns c = keys-tell
