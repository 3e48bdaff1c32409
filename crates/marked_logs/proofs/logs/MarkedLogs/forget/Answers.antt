use Rattle.std.proofs.Common.{◌≡◌, subst, OnOk}
use Rattle.marked_logs.specs.Logs.{Logs, forgetting}
use Rattle.marked_logs.specs.Kept.{logs_of}
use Rattle.marked_logs.proofs.LogLemmas.{forget-told}
use Rattle.marked_logs.proofs.logs.MarkedLogs.forget.Goals as goal

pub returns-clause-forgot : goal.returns-clause-forgot
returns-clause-forgot g c =
    let tree = c.self.inside.tree in
    subst (λ (l : Logs g.row.E.Denot). OnOk c.set.result (logs_of tree c.set.new.self ≡ record l { now = forgetting l.now c.args.session }))
    c.self.view_is
    (forget-told c.set.result tree c.self.inside.logs c.set.new.self c.args.session c.root.result c.root.ensures.list c.set.ensures.set)
