use Rattle.std.proofs.Common.{◌∙◌, sym, ap}
use Rattle.std.proofs.lemmas.Option.{get_or_from_slice_get}
use Rattle.session_steps.specs.Stage.{Member}
use Rattle.marked_worlds.specs.declared.members.StatusAndRest.{StatusAndRest}
use Rattle.marked_worlds.specs.Members.{no_kept}
use Rattle.marked_worlds.proofs.MemberLemmas.{inside-kept, member-is}
use Rattle.marked_worlds.proofs.members.MarkedMembers.status.Goals as goal

pub get-requires : goal.get-requires
get-requires c = inside-kept c.self.inside.logs c.self.inside.kept c.self.inside.told.kept.items c.self.inside.seen.items c.args.self.now c.args.session c.self.invariant.whole c.self.view_is c.requires

pub returns : goal.returns
returns c =
    ap (λ (k : StatusAndRest). k.status) (sym (get_or_from_slice_get c.self.inside.kept.list c.args.session c.get.result no_kept c.get.ensures))
    ∙ ap (λ (m : Member). m.state.status) (sym (member-is c.self.inside.logs c.self.inside.kept c.self.inside.told.kept.items c.self.inside.seen.items c.args.self.now c.args.session
    c.self.invariant.whole c.self.view_is))
