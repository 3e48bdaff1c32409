use Rattle.std.proofs.Common.{sym, subst}
use Rattle.spec_classes.specs.Classes.{AreClassesOf, drawn}
use Rattle.class_commands.proofs.SampleLemmas.{lines-drawn}
use Rattle.class_commands.proofs.sampling.placed.Goals as goal

-- drawn orders are lines, whose serial orders are not told
pub returns-in-Ok-classed-clause-found : goal.returns-in-Ok-classed-clause-found
returns-in-Ok-classed-clause-found c =
    let x = c.args.explored in
    let run = drawn x.spec.now.run c.args.ranks.now in
    c.in-Ok-classed.ensures x.kind x.tables.now run (record {
      classes = subst (AreClassesOf x.kind x.tables.now run) (sym c.as_slice.ensures.value) c.in-Ok.ensures.classes;
      serial = lines-drawn x.spec.now.run c.args.ranks.now c.requires.some;
    })
