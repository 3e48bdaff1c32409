use Rattle.std.proofs.Common.{◌≡◌, ◌++◌, map}
use Rattle.lock_queues.specs.Records.{row_of}
use Rattle.lock_queues.proofs.modes.push_keys.Given as goal

abbrev pub invariant-loop-key : goal.invariant-loop-key
invariant-loop-key l = l.all.items ++ map (row_of l.table) l.key-iterator ≡ l.fn.all.items ++ map (row_of l.table) l.keys
