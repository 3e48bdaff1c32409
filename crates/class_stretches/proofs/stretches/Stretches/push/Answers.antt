use Rattle.std.proofs.Common.{subst, sym, ◌<◌}
use Rattle.class_stretches.specs.Stretches.{Stretched, end_of, MayCome}
use Rattle.class_stretches.proofs.Adding.{pushed-stretched, pushed-facts}
use Rattle.class_stretches.proofs.stretches.Stretches.push.Goals as goal

pub invariant_of-self-2 : goal.invariant_of-self-2
invariant_of-self-2 c =
    let s : Stretched = record { list = c.self.inside.list.items; classes = c.self.inside.classes } in
    rw (c.in_ok-put.ensures.ok, c.classes_with-self-inside.ensures)
    (pushed-stretched s c.args.end c.args.class c.self.invariant
    (subst (λ (v : Stretched). end_of v.list < c.args.end) (sym c.self.view_is) c.requires.some)
    (subst (λ (v : Stretched). MayCome v.classes c.args.class) (sym c.self.view_is) c.requires.class))

pub returns-clause-ok : goal.returns-clause-ok
returns-clause-ok c =
    let s : Stretched = record { list = c.self.inside.list.items; classes = c.self.inside.classes } in
    rw (c.in_ok-put.ensures.ok, c.classes_with-self-inside.ensures, ← c.self.view_is)
    (pushed-facts s c.args.end c.args.class c.self.invariant
    (subst (λ (v : Stretched). end_of v.list < c.args.end) (sym c.self.view_is) c.requires.some))
