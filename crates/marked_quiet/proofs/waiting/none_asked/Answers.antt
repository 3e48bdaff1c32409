use Rattle.std.proofs.Common.{sym, ap, ◌∙◌, [], arith}
use Rattle.numbered_specs.specs.Numbers.{plans_of, resource_of}
use Rattle.marked_quiet.specs.Asked.{is_elsewhere}
use Rattle.marked_quiet.proofs.AskedLemmas.{all-so-far, asked-passes, one-fails, passes}
use Rattle.marked_quiet.proofs.waiting.none_asked.Goals as goal

pub returns-then-not-none_asked_by : goal.returns-then-not-none_asked_by
returns-then-not-none_asked_by c =
    let world = c.args.world.now in
    let test = is_elsewhere (resource_of world.numbers.resources c.args.number) in
    let plans = plans_of world.numbers.plans c.args.step in
    one-fails (passes test world.numbers.resources) plans c.loop-statement.statement [] (omega arith)
    (sym (ap (passes test world.numbers.resources) c.plan_of.ensures.is) ∙ sym c.none_asked_by.ensures ∙ c.if-not-none_asked_by.true)
    ∙ asked-passes world.file.run world.numbers c.known.ensures.numbering c.args.step c.requires.step test

pub returns : goal.returns
returns c =
    let world = c.args.world.now in
    let test = is_elsewhere (resource_of world.numbers.resources c.args.number) in
    let plans = plans_of world.numbers.plans c.args.step in
    all-so-far (passes test world.numbers.resources) plans c.loop-statement.statement (omega arith) c.loop-statement.invariant
    ∙ asked-passes world.file.run world.numbers c.known.ensures.numbering c.args.step c.requires.step test
