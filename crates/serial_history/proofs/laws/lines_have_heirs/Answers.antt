use Rattle.machine_model.specs.World.{send_all}
use Rattle.serial_history.specs.Serial.{send_all_told}
use Rattle.serial_history.proofs.SerialLine.{line-tells, heir-told, told-heir}
use Rattle.serial_history.proofs.laws.lines_have_heirs.Goals as goal

pub returns : goal.returns
returns c = λ start steps w ks h sound fit told.
    heir-told start (send_all steps w ks) (send_all_told steps w ks h) (line-tells start steps w ks h sound fit (told-heir start w h told))
