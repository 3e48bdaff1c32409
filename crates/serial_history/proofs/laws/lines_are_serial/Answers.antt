use Rattle.serial_history.proofs.SerialLine.{line-tells, told-heir}
use Rattle.serial_history.proofs.Wholes.{whole-told}
use Rattle.machine_model.specs.World.{send_all}
use Rattle.serial_history.specs.Serial.{send_all_told}
use Rattle.serial_history.proofs.laws.lines_are_serial.Goals as goal

-- nothing is left out of what is whole
pub returns : goal.returns
returns c = λ start steps w ks h sound fit told whole.
    whole-told start (send_all steps w ks) (send_all_told steps w ks h) whole (line-tells start steps w ks h sound fit (told-heir start w h told))
