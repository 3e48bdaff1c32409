use mathlib.Core.List.{IsPrefix}
use Rattle.std.proofs.Common.{◌∙◌, ap, map, subst, Some}
use Rattle.marked_worlds.specs.Members.{MarkedSessions, sessions_seen}
use Rattle.marked_worlds.proofs.MemberLemmas.{all-kept, all-logs}
use Rattle.marked_worlds.proofs.SeenLemmas.{front-mapped, last-mapped}
use Rattle.marked_worlds.proofs.members.MarkedMembers.note.Goals as goal

pub of-requires-clause-logs : goal.of-requires-clause-logs
of-requires-clause-logs c = all-logs c.self.inside.logs c.self.inside.kept c.self.inside.told.kept.items c.self.inside.seen.items c.args.self.now c.args.count c.self.invariant.whole c.self.view_is c.requires

pub of-requires-clause-kept : goal.of-requires-clause-kept
of-requires-clause-kept c = all-kept c.self.inside.logs c.self.inside.kept c.self.inside.told.kept.items c.self.inside.seen.items c.args.self.now c.args.count c.self.invariant.whole c.self.view_is c.requires

pub returns-clause-number : goal.returns-clause-number
returns-clause-number c =
    last-mapped (sessions_seen c.self.inside.logs.lists) c.self.inside.seen.items c.push.new.self.items c.in_ok-now.now c.in_ok-push.ensures.items c.len-number.result
    (c.len-number.ensures ∙ c.self.inside.seen.ok.0)
    ∙ ap Some (c.in_ok-now.ensures.sessions ∙ ap (λ (v : MarkedSessions). v.list) c.self.view_is)

pub returns-clause-front : goal.returns-clause-front
returns-clause-front c =
    let seen = sessions_seen c.self.inside.logs.lists in
    subst (λ (v : MarkedSessions). IsPrefix v.seen (map seen c.push.new.self.items)) c.self.view_is
    (front-mapped seen c.self.inside.seen.items c.push.new.self.items c.in_ok-now.now c.in_ok-push.ensures.items)
