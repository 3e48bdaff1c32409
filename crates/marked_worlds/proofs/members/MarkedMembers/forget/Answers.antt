use Rattle.std.proofs.Common.{◌≡◌, ap, set, []}
use Rattle.events.specs.declared.event.Event.{Event}
use Rattle.marked_logs.specs.Logs.{Logs, forgetting}
use Rattle.session_steps.proofs.Answered.{on_ok}
use Rattle.marked_worlds.proofs.MemberLemmas.{inside-logs, told-by}
use Rattle.marked_worlds.proofs.members.MarkedMembers.forget.Goals as goal

pub forget-requires : goal.forget-requires
forget-requires c = inside-logs c.self.inside.logs c.self.inside.kept c.self.inside.told.kept.items c.self.inside.seen.items c.args.self.now c.args.session c.self.invariant.whole c.self.view_is c.requires

pub returns-clause-forgot : goal.returns-clause-forgot
returns-clause-forgot c =
    let logs = c.self.inside.logs in
    told-by c.self.inside.logs c.self.inside.kept c.self.inside.told.kept.items c.self.inside.seen.items c.args.self.now c.args.session c.self.invariant.whole c.self.view_is
    c.forget.result c.forget.new.self.now (λ told. [])
    (on_ok c.forget.result (c.forget.new.self ≡ record logs { now = forgetting logs.now c.args.session }) (c.forget.new.self.now ≡ set logs.now c.args.session [])
    c.forget.ensures.forgot (ap (λ (l : Logs Event). l.now)))
