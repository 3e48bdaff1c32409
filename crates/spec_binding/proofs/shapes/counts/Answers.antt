use Rattle.std.proofs.Common.{◌<◌, ap, length, arith}
use Rattle.spec_binding.proofs.ShapeLemmas.{item-le-total}
use Rattle.spec_binding.proofs.shapes.counts.Goals as goal

pub overflow_cast-len : goal.overflow_cast-len
overflow_cast-len c =
    let few : c.len.result < 256 =
    omega (
      arith,
      item-le-total c.args.sessions.now c.loop-session.session-index c.session-item.result c.loop-session-test.true,
      ap (λ s. length s.steps.items) c.session-item.is,
      c.session-item.result.steps.ok.0,
    ) in
    grind (arith, few)
