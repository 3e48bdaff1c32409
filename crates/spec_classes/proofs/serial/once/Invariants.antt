use Rattle.std.proofs.Common.{◌≡◌, length}
use Rattle.perm_ranks.specs.declared.TheConstants.{MAX_SESSIONS}
use Rattle.spec_classes.specs.Serial.{AreOnce}
use Rattle.spec_classes.proofs.serial.once.Given as goal

abbrev pub invariant-loop-session : goal.invariant-loop-session
invariant-loop-session l = record { long : length l.left ≡ MAX_SESSIONS; once : AreOnce l.session l.left }
