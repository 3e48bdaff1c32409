use Rattle.std.proofs.Common.{ap, ◌∙◌, ◌-◌, arith}
use Rattle.binding_model.specs.Translation.{joined_in}
use Rattle.statement_binding.proofs.JoinLemmas.{joined-many}
use Rattle.statement_binding.proofs.joining.+joined_in.Goals as goal

pub returns : goal.returns
returns t c =
    let many = joined-many c.args.turns (c.args.turns - 1) c.args.joint c.args.parts.items (omega (arith, c.if-turns-eq0.false)) (omega (
      arith,
      c.if-len-lt2.false,
      c.len.ensures,
    )) in
    let same = ap (joined_in (c.args.turns - 1) c.args.joint) c.in_ok-pairs.ensures ∙ many in
    rw same at c.joined_in.ensures
