use Rattle.std.proofs.Common.{◌≡◌, subst, List, Some}
use Rattle.std.specs.Prelude.{slice_get}
use Rattle.std.specs.Result.{IfOk}
use Rattle.events.specs.declared.event.Event.{Event}
use Rattle.marked_worlds.specs.Told.{outcomes_of}
use Rattle.marked_worlds.proofs.MemberLemmas.{first-is, up-to-logs}
use Rattle.marked_worlds.proofs.members.MarkedMembers.number.Goals as goal

pub number-requires-clause-few : goal.number-requires-clause-few
number-requires-clause-few c = up-to-logs c.self.inside.logs c.self.inside.kept c.self.inside.told.kept.items c.self.inside.seen.items c.args.self.now c.args.count c.self.invariant.whole c.self.view_is c.requires

pub returns-clause-outcome : goal.returns-clause-outcome
returns-clause-outcome c =
    subst (λ (told : List (List Event)). IfOk c.number.result (λ number. slice_get (outcomes_of c.number.new.self.kept.items) number ≡ Some told))
    (first-is c.self.inside.logs c.self.inside.kept c.self.inside.told.kept.items c.self.inside.seen.items c.args.self.now c.args.count c.self.invariant.whole c.self.view_is) c.number.ensures.outcome
