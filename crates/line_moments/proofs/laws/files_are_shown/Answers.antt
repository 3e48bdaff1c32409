use Rattle.line_moments.proofs.Showing.{files-shown}
use Rattle.line_moments.proofs.laws.files_are_shown.Goals as goal

pub returns : goal.returns
returns c = files-shown
