use Rattle.machine_model.proofs.Settles.{send-sound}
use Rattle.machine_model.proofs.laws.send_keeps_sound.Goals as goal

pub returns : goal.returns
returns c = send-sound
