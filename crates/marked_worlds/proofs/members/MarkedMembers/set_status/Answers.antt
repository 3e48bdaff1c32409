use Rattle.std.proofs.Common.{◌≡◌, ◌∙◌, sym, ap, get_or, []}
use Rattle.std.proofs.lemmas.Option.{get_or_from_slice_get}
use Rattle.session_steps.specs.Stage.{Member, no_member}
use Rattle.marked_worlds.specs.declared.members.StatusAndRest.{StatusAndRest}
use Rattle.marked_worlds.specs.Members.{member_of, no_kept, with_status}
use Rattle.marked_worlds.proofs.MemberLemmas.{inside-kept, kept-by, member-is}
use Rattle.marked_worlds.proofs.members.MarkedMembers.set_status.Goals as goal

pub get-rest-requires : goal.get-rest-requires
get-rest-requires c = inside-kept c.self.inside.logs c.self.inside.kept c.self.inside.told.kept.items c.self.inside.seen.items c.args.self.now c.args.session c.self.invariant.whole c.self.view_is c.requires

pub set-requires : goal.set-requires
set-requires c = inside-kept c.self.inside.logs c.self.inside.kept c.self.inside.told.kept.items c.self.inside.seen.items c.args.self.now c.args.session c.self.invariant.whole c.self.view_is c.requires

pub returns-clause-stands : goal.returns-clause-stands
returns-clause-stands c =
    let logs = c.self.inside.logs in
    let kept = c.self.inside.kept in
    let i = c.args.session in
    let k : StatusAndRest = record { status = c.args.status; rest = c.get-rest.result.rest } in
    let there : get_or kept.list i no_kept ≡ c.get-rest.result = get_or_from_slice_get kept.list i c.get-rest.result no_kept c.get-rest.ensures in
    let member = member-is c.self.inside.logs c.self.inside.kept c.self.inside.told.kept.items c.self.inside.seen.items c.args.self.now c.args.session c.self.invariant.whole c.self.view_is in
    let same : member_of (get_or logs.now i []) k ≡ with_status (get_or c.args.self.now.list i no_member) c.args.status =
    (λ j. member_of (get_or logs.now i []) (record { status = c.args.status; rest = (sym there j).rest }))
    ∙ ap (λ (m : Member). with_status m c.args.status) (sym member) in
    kept-by c.self.inside.logs c.self.inside.kept c.self.inside.told.kept.items c.self.inside.seen.items c.args.self.now c.args.session c.self.invariant.whole c.self.view_is
    c.set.result c.set.new.self k (with_status (get_or c.args.self.now.list i no_member) c.args.status) same c.set.ensures.set
