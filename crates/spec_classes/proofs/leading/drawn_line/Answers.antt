use Rattle.std.proofs.Common.{rules, ◌<◌, sym, ap, ◌∙◌, subst}
use Rattle.bound_specs.specs.Spec.{line_of, ranks}
use Rattle.spec_classes.proofs.LineTold.{drawn-inside, drawn-order-at}
use Rattle.spec_classes.proofs.leading.drawn_line.Goals as goal

pub rank_at-requires : goal.rank_at-requires
rank_at-requires c = drawn-inside c.args.kind c.args.spec.now.run c.args.ranks.now c.args.place c.requires.some.0 c.requires.ranks c.requires.some.1

pub unreachable-requires : goal.unreachable-requires
unreachable-requires c =
    let run = c.args.spec.now.run in
    let lt = drawn-inside c.args.kind run c.args.ranks.now c.args.place c.requires.some.0 c.requires.ranks c.requires.some.1 in
    let inside : c.rank_at.result < ranks run = subst (λ r. r < ranks run) (sym c.rank_at.ensures) (c.requires.inside c.args.place 0 lt) in
    search (rules, c.line.ensures.some.1 inside, c.in_default.is)

pub returns : goal.returns
returns c =
    let run = c.args.spec.now.run in
    let lt = drawn-inside c.args.kind run c.args.ranks.now c.args.place c.requires.some.0 c.requires.ranks c.requires.some.1 in
    drawn-order-at c.args.kind run c.args.ranks.now c.args.place c.in-Some.line.items lt (c.in-Some.ensures.line ∙ ap (line_of run) c.rank_at.ensures)
