use Rattle.marked_logs.proofs.LogLemmas.{back-nodes}
use Rattle.marked_logs.proofs.logs.MarkedLogs.go_back.Goals as goal

pub invariant_of-self : goal.invariant_of-self
invariant_of-self g c = back-nodes c.self.inside.tree c.self.inside.logs c.go_back.new.self c.self.invariant c.go_back.ensures
