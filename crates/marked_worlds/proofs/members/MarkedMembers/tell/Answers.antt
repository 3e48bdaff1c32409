use Rattle.std.proofs.Common.{◌∙◌, ap, [], ◌∷◌, ◌++◌, get_or}
use Rattle.marked_worlds.specs.Members.{MarkedSessions}
use Rattle.marked_worlds.proofs.MemberLemmas.{inside-logs, seen-kept, still-kept, told-by, told-count}
use Rattle.marked_worlds.proofs.members.MarkedMembers.tell.Goals as goal

pub tell-requires : goal.tell-requires
tell-requires c = inside-logs c.self.inside.logs c.self.inside.kept c.self.inside.told.kept.items c.self.inside.seen.items c.args.self.now c.args.session c.self.invariant.whole c.self.view_is c.requires

pub returns-clause-told : goal.returns-clause-told
returns-clause-told c = told-by c.self.inside.logs c.self.inside.kept c.self.inside.told.kept.items c.self.inside.seen.items c.args.self.now c.args.session c.self.invariant.whole c.self.view_is
    c.tell.result c.tell.new.self.now (λ told. told ++ c.args.event ∷ []) c.tell.ensures.told

pub invariant_of-self : goal.invariant_of-self
invariant_of-self c =
    let logs = c.self.inside.logs in
    let left = c.tell.new.self in
    still-kept logs left c.self.inside.kept c.self.inside.told.kept.items c.self.inside.seen.items c.self.invariant
    (told-count c.tell.result logs.now left.now c.args.session (get_or logs.now c.args.session [] ++ c.args.event ∷ []) c.tell.ensures.told c.tell.ensures.kept)
    c.tell.ensures.marked c.tell.ensures.lists

pub returns-clause-seen : goal.returns-clause-seen
returns-clause-seen c =
    seen-kept c.self.inside.logs.lists c.tell.new.self.lists c.self.inside.seen.items c.tell.ensures.lists c.self.invariant.seen
    ∙ ap (λ (v : MarkedSessions). v.seen) c.self.view_is
