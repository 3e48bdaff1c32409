use Rattle.machine_model.proofs.Owned.{lines-sound}
use Rattle.machine_model.proofs.laws.worlds_reached_are_sound.Goals as goal

pub returns : goal.returns
returns c = lines-sound
