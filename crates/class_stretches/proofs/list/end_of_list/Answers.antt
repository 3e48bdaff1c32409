use Rattle.std.proofs.Common.{◌-◌, length, arith}
use Rattle.class_stretches.proofs.Lists.{last-ends}
use Rattle.class_stretches.proofs.list.end_of_list.Goals as goal

pub returns-in-len1-up : goal.returns-in-len1-up
returns-in-len1-up c = last-ends 0 c.args.list.now (length c.args.list.now - 1) (omega (arith, c.in-len1-up.len_at_least))
