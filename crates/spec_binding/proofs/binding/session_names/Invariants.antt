use Rattle.std.proofs.Common.{◌≡◌, take, map}
use Rattle.spec_reader.specs.Views.{session_tree}
use Rattle.bound_specs.specs.Lines.{session_names}
use Rattle.spec_binding.proofs.binding.session_names.Given as goal

abbrev pub invariant-loop-session : goal.invariant-loop-session
invariant-loop-session l = l.names.items ≡ session_names (map session_tree (take l.session-index l.sessions))
