use Rattle.std.proofs.Common.{sym, ap, ◌∙◌, []}
use Rattle.std.proofs.Common.{arith}
use Rattle.numbered_specs.specs.Numbers.{plans_of}
use Rattle.marked_quiet.specs.Asked.{fits_at}
use Rattle.marked_quiet.proofs.AskedLemmas.{all-so-far, asked-passes, one-fails, passes}
use Rattle.marked_quiet.proofs.fitting.step_fits.Goals as goal

pub returns-then-not-plan_fits : goal.returns-then-not-plan_fits
returns-then-not-plan_fits c =
    let world = c.args.world.now in
    let test = fits_at world.world c.args.session in
    let plans = plans_of world.numbers.plans c.args.step in
    one-fails (passes test world.numbers.resources) plans c.loop-statement.statement [] (omega arith)
    (sym (ap (passes test world.numbers.resources) c.plan_of.ensures.is) ∙ sym c.plan_fits.ensures ∙ c.if-not-plan_fits.true)
    ∙ asked-passes world.file.run world.numbers c.known.ensures.numbering c.args.step c.requires.step test

pub returns : goal.returns
returns c =
    let world = c.args.world.now in
    let test = fits_at world.world c.args.session in
    let plans = plans_of world.numbers.plans c.args.step in
    all-so-far (passes test world.numbers.resources) plans c.loop-statement.statement (omega arith) c.loop-statement.invariant
    ∙ asked-passes world.file.run world.numbers c.known.ensures.numbering c.args.step c.requires.step test
