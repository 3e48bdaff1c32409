use Rattle.std.proofs.Common.{◌∙◌}
use Rattle.marked_execution.proofs.OnlySight.{row-at}
use Rattle.marked_execution.proofs.marked_sight.MarkedSightSight.read.Goals as goal

pub returns : goal.returns
returns c = c.read.ensures ∙ row-at c.args.self.session c.args._session c.args.table c.args.key.now c.args.self.rows.now.now c.requires
