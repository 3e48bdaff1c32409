-- Parts of what is read of a world. No public clause cites this module.
use Rattle.std.specs.Prelude.{pos}
use Rattle.lock_modes.specs.Rows.{Tuple}
use Rattle.lock_modes.specs.declared.value.Value.{Value}
use Rattle.lock_modes.specs.declared.value.Value.TheVariants.{Int}
use Rattle.machine_model.specs.declared.status.Status.{Status}
use Rattle.machine_model.specs.declared.status.Status.TheVariants.{Outside, InBlock, Broken}
use Rattle.order_classes.specs.declared.shows.Rest.{Rest}
use Rattle.order_classes.specs.declared.shows.Rest.TheVariants.{HasEnded, IsOpen, HasFailed}

-- a row whose number nobody sees
abbrev pub at_zero : Value × Tuple → Value × Tuple
at_zero e = (Int (pos 0), e.1)

-- how a session stands that does not wait
abbrev pub rest_by : Status → Rest
rest_by Outside = HasEnded
rest_by (InBlock level) = IsOpen
rest_by Broken = HasFailed
