use Rattle.std.proofs.Common.{rules, ◌≡◌, ◌∙◌, sym, ap, get_or, []}
use Rattle.std.proofs.lemmas.Option.{get_or_from_slice_get}
use Rattle.session_steps.specs.Stage.{Member, no_member}
use Rattle.marked_worlds.specs.declared.members.StatusAndRest.{StatusAndRest}
use Rattle.marked_worlds.specs.Members.{member_of, no_kept, with_rest}
use Rattle.marked_worlds.proofs.MemberLemmas.{inside-kept, kept-by, member-is, rest-stays}
use Rattle.marked_worlds.proofs.members.MarkedMembers.set_rest.Goals as goal

pub get-status-requires : goal.get-status-requires
get-status-requires c = inside-kept c.self.inside.logs c.self.inside.kept c.self.inside.told.kept.items c.self.inside.seen.items c.args.self.now c.args.session c.self.invariant.whole c.self.view_is c.requires

pub set-requires : goal.set-requires
set-requires c = inside-kept c.self.inside.logs c.self.inside.kept c.self.inside.told.kept.items c.self.inside.seen.items c.args.self.now c.args.session c.self.invariant.whole c.self.view_is c.requires

pub returns-clause-left : goal.returns-clause-left
returns-clause-left c =
    let logs = c.self.inside.logs in
    let kept = c.self.inside.kept in
    let i = c.args.session in
    let k : StatusAndRest = record { status = c.get-status.result.status; rest = c.args.rest } in
    let there : get_or kept.list i no_kept ≡ c.get-status.result = get_or_from_slice_get kept.list i c.get-status.result no_kept c.get-status.ensures in
    let member = member-is c.self.inside.logs c.self.inside.kept c.self.inside.told.kept.items c.self.inside.seen.items c.args.self.now c.args.session c.self.invariant.whole c.self.view_is in
    let same : member_of (get_or logs.now i []) k ≡ with_rest (get_or c.args.self.now.list i no_member) c.args.rest =
    (λ j. member_of (get_or logs.now i []) (record { status = (sym there j).status; rest = c.args.rest }))
    ∙ ap (λ (m : Member). with_rest m c.args.rest) (sym member) in
    kept-by c.self.inside.logs c.self.inside.kept c.self.inside.told.kept.items c.self.inside.seen.items c.args.self.now c.args.session c.self.invariant.whole c.self.view_is
    c.set.result c.set.new.self k (with_rest (get_or c.args.self.now.list i no_member) c.args.rest) same c.set.ensures.set

-- nothing is left of a step, and nothing was
pub returns-then-is_none-2-clause-left : goal.returns-then-is_none-2-clause-left
returns-then-is_none-2-clause-left c =
    let kept = c.self.inside.kept in
    let there : get_or kept.list c.args.session no_kept ≡ c.get-status.result =
    get_or_from_slice_get kept.list c.args.session c.get-status.result no_kept c.get-status.ensures in
    rest-stays c.self.inside.logs kept c.self.inside.told.kept.items c.self.inside.seen.items c.args.self.now c.args.session c.self.invariant.whole c.self.view_is
    c.get-status.result c.args.rest there (search rules) (search rules)
