use Rattle.std.proofs.Common.{◌∙◌, ◌-◌, length, arith}
use Rattle.class_stretches.proofs.Lists.{last-class}
use Rattle.class_stretches.proofs.list.is_last.Goals as goal

pub returns-in-len1-up : goal.returns-in-len1-up
returns-in-len1-up c =
    c.is_same.ensures ∙ last-class c.args.list.now (length c.args.list.now - 1) c.args.class (omega (arith, c.in-len1-up.len_at_least))
