use Rattle.std.specs.List.{list_all}
use Rattle.std.proofs.Common.{◌≡◌, true, take}
use Rattle.numbered_specs.specs.Numbers.{plans_of}
use Rattle.marked_quiet.specs.Asked.{fits_at}
use Rattle.marked_quiet.proofs.AskedLemmas.{passes}
use Rattle.marked_quiet.proofs.fitting.step_fits.Given as goal

-- the plans so far fit
abbrev pub invariant-loop-statement : goal.invariant-loop-statement
invariant-loop-statement l =
    list_all (passes (fits_at l.world.world l.session) l.world.numbers.resources) (take l.statement (plans_of l.world.numbers.plans l.fn.step)) ≡ true
