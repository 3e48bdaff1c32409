use Rattle.std.proofs.Common.{◌≡◌, ◌++◌, drop, map}
use Rattle.spec_reader.specs.Views.{session_tree}
use Rattle.bound_specs.specs.Lines.{step_names}
use Rattle.spec_binding.proofs.binding.step_names.Given as goal

abbrev pub invariant-loop-session : goal.invariant-loop-session
invariant-loop-session l = l.names.items ++ step_names (map session_tree (drop l.session-index l.sessions)) ≡ step_names (map session_tree l.sessions)
