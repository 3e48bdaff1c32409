use Rattle.std.proofs.Common.{◌≡◌, ◌++◌, drop, map}
use Rattle.spec_reader.specs.Views.{session_tree}
use Rattle.spec_texts.specs.Texts.{step_lines}
use Rattle.spec_texts.proofs.steps.step_lines.Given as goal

abbrev pub invariant-loop-session : goal.invariant-loop-session
invariant-loop-session l = l.lines.items ++ step_lines (map session_tree (drop l.session-index l.sessions)) ≡ step_lines (map session_tree l.sessions)
