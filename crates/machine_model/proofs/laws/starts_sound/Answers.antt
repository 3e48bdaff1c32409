use Rattle.machine_model.proofs.Starts.{start-sound}
use Rattle.machine_model.proofs.laws.starts_sound.Goals as goal

pub returns : goal.returns
returns c = start-sound
