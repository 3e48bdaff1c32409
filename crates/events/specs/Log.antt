-- Turns that have ended.
use Rattle.std.specs.Prelude.{suc, [], ◌++◌, Option, Some, None}
use Rattle.std.specs.declared.rc.Rc.{Rc}
use Rattle.std.specs.declared.alloc.Global.{Global}
use Rattle.events.specs.Turned.{Turned}
use Rattle.events.specs.declared.turn.Turn.{Turn}

-- no turns, or those before the last one and then that one
abbrev pub turned : Option (Rc Turn Global) → Turned
turned None = record { told = []; count = 0 }
turned (Some last) = record { told = last.value.before.told ++ last.value.events.items; count = suc last.value.before.count }
