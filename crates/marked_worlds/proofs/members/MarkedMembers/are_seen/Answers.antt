use Rattle.std.proofs.Common.{◌≡◌, ◌∙◌, ◌<◌, ap, length, subst, sym, Some}
use Rattle.std.specs.Prelude.{slice_get}
use Rattle.marked_worlds.specs.Members.{MarkedSessions, sessions_seen}
use Rattle.marked_worlds.proofs.MemberLemmas.{all-logs}
use Rattle.marked_worlds.proofs.SeenLemmas.{mapped-at}
use Rattle.marked_worlds.proofs.members.MarkedMembers.are_seen.Goals as goal

pub are-requires-clause-logs : goal.are-requires-clause-logs
are-requires-clause-logs c = all-logs c.self.inside.logs c.self.inside.kept c.self.inside.told.kept.items c.self.inside.seen.items c.args.self.now c.args.count c.self.invariant.whole c.self.view_is c.requires.count

pub returns : goal.returns
returns c is =
    let seen = sessions_seen c.self.inside.logs.lists in
    subst (λ (v : MarkedSessions). slice_get v.seen c.args.number ≡ Some v.list) c.self.view_is
    (mapped-at seen c.self.inside.seen.items c.args.number c.index.result.now c.index.ensures
    (subst (λ (v : MarkedSessions). c.args.number < length v.seen) (sym c.self.view_is) c.requires.number)
    ∙ ap Some (c.are.ensures is))
