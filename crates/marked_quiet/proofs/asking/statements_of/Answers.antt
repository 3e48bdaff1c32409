use Rattle.std.proofs.Common.{sym, ap, ◌∙◌, get_or, length}
use Rattle.bound_specs.specs.Spec.{SpecFile, no_step}
use Rattle.marked_quiet.proofs.AskedLemmas.{count-plans}
use Rattle.marked_quiet.proofs.asking.statements_of.Goals as goal

pub returns : goal.returns
returns c =
    let world = c.args.world.now in
    ap length (c.statements.ensures.are ∙ ap (λ (f : SpecFile). (get_or f.run.steps c.args.step no_step).statements) c.spec.ensures)
    ∙ sym (count-plans world.file.run world.numbers c.known.ensures.numbering c.args.step c.requires)
