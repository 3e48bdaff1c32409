use Rattle.machine_model.proofs.Levels.{perform-behind, perform-in_status}
use Rattle.machine_model.proofs.laws.statuses_are_foreseen.Goals as goal

pub returns : goal.returns
returns c = record { behind = perform-behind; same = perform-in_status }
