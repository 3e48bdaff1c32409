use Rattle.session_machine.proofs.Seeing.{lengths-differ}
use Rattle.std.proofs.Common.{sym, ◌∙◌}
use Rattle.session_machine.proofs.telling.are_same.Goals as goal

pub returns-then-len : goal.returns-then-len
returns-then-len c = lengths-differ c.args.old.now c.args.new.now (λ k. c.if-len.true (c.len.ensures ∙ k ∙ sym c.len-2.ensures))
