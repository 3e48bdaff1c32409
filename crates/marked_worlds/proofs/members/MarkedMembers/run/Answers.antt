use Rattle.std.proofs.Common.{◌∙◌, ◌++◌, sym, ap, length}
use Rattle.row_tables.specs.Layers.{sight}
use Rattle.statement_evaluation.specs.Effect.{effect}
use Rattle.statement_execution.specs.Run.{events_of}
use Rattle.marked_worlds.specs.Members.{MarkedSessions}
use Rattle.marked_worlds.proofs.MemberLemmas.{inside-logs, members-count, seen-kept, still-kept, told-by}
use Rattle.marked_worlds.proofs.members.MarkedMembers.run.Goals as goal

pub run_statement-requires-clause-inside : goal.run_statement-requires-clause-inside
run_statement-requires-clause-inside c = inside-logs c.self.inside.logs c.self.inside.kept c.self.inside.told.kept.items c.self.inside.seen.items c.args.self.now c.args.session
    c.self.invariant.whole c.self.view_is c.requires.inside

pub returns-clause-told : goal.returns-clause-told
returns-clause-told c =
    let events = events_of (effect c.args.statement.now (sight c.args.session c.args.rows.now.now)) in
    told-by c.self.inside.logs c.self.inside.kept c.self.inside.told.kept.items c.self.inside.seen.items c.args.self.now c.args.session c.self.invariant.whole c.self.view_is
    c.run_statement.result c.run_statement.new.logs.now (λ told. told ++ events) c.run_statement.ensures.told

pub returns-clause-sessions : goal.returns-clause-sessions
returns-clause-sessions c =
    let logs = c.self.inside.logs in
    let kept = c.self.inside.kept in
    members-count c.run_statement.new.logs.now kept.list (c.run_statement.ensures.sessions ∙ c.self.invariant.whole.now)
    ∙ sym (members-count logs.now kept.list c.self.invariant.whole.now) ∙ ap (λ (v : MarkedSessions). length v.list) c.self.view_is

pub invariant_of-self : goal.invariant_of-self
invariant_of-self c =
    let ran = c.run_statement in
    still-kept c.self.inside.logs ran.new.logs c.self.inside.kept c.self.inside.told.kept.items c.self.inside.seen.items c.self.invariant ran.ensures.sessions ran.ensures.logs_marked
    ran.ensures.lists

pub returns-clause-seen : goal.returns-clause-seen
returns-clause-seen c =
    let ran = c.run_statement in
    seen-kept c.self.inside.logs.lists ran.new.logs.lists c.self.inside.seen.items ran.ensures.lists c.self.invariant.seen
    ∙ ap (λ (v : MarkedSessions). v.seen) c.self.view_is
