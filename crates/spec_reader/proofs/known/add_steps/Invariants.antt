use Rattle.std.proofs.Common.{◌++◌, map, take}
use Rattle.spec_reader.specs.Names.{names_in, HaveSame}
use Rattle.spec_reader.specs.Views.{step_tree}
use Rattle.spec_reader.proofs.known.add_steps.Given as goal

abbrev pub invariant-loop-step : goal.invariant-loop-step
invariant-loop-step l = HaveSame (l.initial.names ++ names_in (map step_tree (take l.step-index l.steps))) l.names
