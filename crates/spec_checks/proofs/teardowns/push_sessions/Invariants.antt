use Rattle.std.proofs.Common.{◌≡◌, ◌++◌, map, take}
use Rattle.std.specs.List.{flat_map}
use Rattle.spec_reader.specs.Views.{session_tree}
use Rattle.spec_checks.specs.Idle.{session_teardowns}
use Rattle.spec_checks.proofs.teardowns.push_sessions.Given as goal

abbrev pub invariant-loop-session : goal.invariant-loop-session
invariant-loop-session l = l.all.items ≡ l.fn.all.items ++ flat_map session_teardowns (map session_tree (take l.session-index l.sessions))
