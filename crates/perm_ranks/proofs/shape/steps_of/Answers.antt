use Rattle.std.proofs.Common.{◌≡◌, ◌∙◌, ap, ℕ, ◌+◌, suc, take, arith, add-one}
use Rattle.perm_ranks.specs.Words.{total}
use Rattle.perm_ranks.proofs.ShapeLemmas.{total-take-le, total-take-next}
use Rattle.perm_ranks.proofs.shape.steps_of.Goals as goal

pub returns-then-count-steps : goal.returns-then-count-steps
returns-then-count-steps c = omega (arith, c.loop-count.invariant.read, c.if-count-steps.true, total-take-le c.args.counts.now c.loop-count.count-index)

pub loop-count-preserved : goal.loop-count-preserved
loop-count-preserved c =
    let i = c.loop-count.count-index in
    let counts = c.args.counts.now in
    let next : total (take (i + 1) counts) ≡ total (take (suc i) counts) = ap (λ n. total (take n counts)) (add-one i) in
    record {
      read = omega (arith, c.loop-count.invariant.read, next, total-take-next counts i);
      few = omega (arith, c.if-count-steps.false, c.loop-count.invariant.few);
    }
