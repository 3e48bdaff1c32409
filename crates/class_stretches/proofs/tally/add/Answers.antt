use Rattle.std.proofs.Common.{◌<◌, ◌∙◌, length, arith}
use Rattle.class_stretches.proofs.Tallies.{ranks-set, ranks-pushed, below-at}
use Rattle.class_stretches.proofs.tally.add.Goals as goal

pub overflow_add-tally : goal.overflow_add-tally
overflow_add-tally c =
    let tallies = c.args.tallies.now in
    let inside : c.args.class < length tallies.items = omega (arith, c.if-place-len.true, c.len.ensures, tallies.ok.0) in
    let below = below-at tallies.items c.args.class c.args.low c.index_mut-tally.result.now c.requires.below inside c.index_mut-tally.ensures.value in
    omega (arith, below, c.requires.some, c.ranges.end.fits)

pub returns-then-place-len : goal.returns-then-place-len
returns-then-place-len c =
    let tallies = c.args.tallies.now in
    let inside : c.args.class < length tallies.items = omega (arith, c.if-place-len.true, c.len.ensures, tallies.ok.0) in
    ranks-set tallies.items c.args.class c.args.low c.args.end c.index_mut-tally.result.now inside c.index_mut-tally.ensures.value

pub returns : goal.returns
returns c =
    let tallies = c.args.tallies.now in
    c.in_ok-push.ensures.items
    ∙ ranks-pushed tallies.items c.args.class c.args.low c.args.end
    (omega (arith, c.if-place-len.false, c.len.ensures, tallies.ok.0, c.requires.class))
