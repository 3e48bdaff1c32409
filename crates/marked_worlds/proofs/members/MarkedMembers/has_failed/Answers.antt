use Rattle.std.proofs.Common.{◌∙◌, sym, ap, map}
use Rattle.std.specs.List.{list_any}
use Rattle.marked_worlds.proofs.MemberLemmas.{any-mapped}
use Rattle.machine_model.specs.Start.{is_failure}
use Rattle.session_steps.specs.Stage.{Member}
use Rattle.marked_worlds.proofs.MemberLemmas.{inside-logs, member-is}
use Rattle.marked_worlds.proofs.members.MarkedMembers.has_failed.Goals as goal

pub log-requires : goal.log-requires
log-requires c = inside-logs c.self.inside.logs c.self.inside.kept c.self.inside.told.kept.items c.self.inside.seen.items c.args.self.now c.args.session c.self.invariant.whole c.self.view_is c.requires

pub returns : goal.returns
returns c =
    c.any_failure.ensures ∙ any-mapped is_failure (λ e. e.now) c.as_slice.result.now
    ∙ ap (λ es. list_any is_failure (map (λ e. e.now) es)) c.as_slice.ensures.value
    ∙ ap (list_any is_failure) (c.in_ok-events.ensures ∙ c.log.ensures.list)
    ∙ ap (λ (m : Member). list_any is_failure m.state.transcript) (sym (member-is c.self.inside.logs c.self.inside.kept c.self.inside.told.kept.items c.self.inside.seen.items c.args.self.now c.args.session
    c.self.invariant.whole c.self.view_is))
