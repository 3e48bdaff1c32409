use Rattle.std.specs.List.{list_all}
use Rattle.std.proofs.Common.{◌≡◌, true, take}
use Rattle.numbered_specs.specs.Numbers.{plans_of, resource_of}
use Rattle.marked_quiet.specs.Asked.{is_elsewhere}
use Rattle.marked_quiet.proofs.AskedLemmas.{passes}
use Rattle.marked_quiet.proofs.waiting.none_asked.Given as goal

-- the plans so far ask nothing there
abbrev pub invariant-loop-statement : goal.invariant-loop-statement
invariant-loop-statement l = list_all (passes (is_elsewhere (resource_of l.world.numbers.resources l.number)) l.world.numbers.resources)
    (take l.statement (plans_of l.world.numbers.plans l.fn.step)) ≡ true
