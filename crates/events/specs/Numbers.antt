-- The numbers that stand for warnings and faults in JSON texts.
use Rattle.std.specs.Prelude.{ℕ}
use Rattle.events.specs.declared.event.Fault.{Fault}
use Rattle.events.specs.declared.event.Fault.TheVariants.{Duplicate, OutOfRange, Deadlock, Aborted, Unavailable}
use Rattle.events.specs.declared.event.Warning.{Warning}
use Rattle.events.specs.declared.event.Warning.TheVariants.{InBlock, NoBlock}

abbrev pub warning_number : Warning → ℕ
warning_number InBlock = 1
warning_number NoBlock = 2

abbrev pub fault_number : Fault → ℕ
fault_number Duplicate = 1
fault_number OutOfRange = 2
fault_number Deadlock = 3
fault_number Aborted = 4
fault_number Unavailable = 5
