use Rattle.std.proofs.Common.{ap, ◌∙◌, length, arith}
use Rattle.bound_specs.proofs.OrderLemmas.{known-line}
use Rattle.bound_specs.proofs.spec.Spec.line.Goals as goal

pub returns-else-rank-len-clause-known : goal.returns-else-rank-len-clause-known
returns-else-rank-len-clause-known c =
    let each = rw c.in-Lines.is at c.self.invariant.ready.lines in
    known-line (λ line. line.items) c.in-Lines.lines.items _ _ c.args.rank c.index.result.now c.copied.result.items each
    (ap (λ file. length file.run.steps) c.self.view_is)
    (omega (arith, c.in-Lines.lines.ok.0)) (c.copied.ensures ∙ ap (λ line. line.items) c.index.ensures)
