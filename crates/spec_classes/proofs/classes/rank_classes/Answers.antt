use Rattle.std.proofs.Common.{◌<◌, ◌^◌, length, sym, subst}
use Rattle.std.proofs.lemmas.List.{length-map}
use Rattle.std.proofs.lemmas.Result.{IfOk-weaker}
use Rattle.bound_specs.specs.Spec.{line_of}
use Rattle.spec_classes.specs.Classes.{drawn}
use Rattle.spec_classes.specs.Tallies.{AreTellable, AreClassesBy}
use Rattle.spec_classes.specs.Told.{AreOfLines}
use Rattle.spec_classes.proofs.Classing.{tellable, are-classes}
use Rattle.spec_classes.proofs.LineTold.{drawn-some, lines-told}
use Rattle.spec_classes.proofs.classes.rank_classes.Goals as goal

pub told_classes-requires-clause-tellable : goal.told_classes-requires-clause-tellable
told_classes-requires-clause-tellable c =
    let ranks = c.args.ranks.now in
    let run = drawn c.args.spec.now.run ranks in
    let shown = c.in_ok-found.found.shows in
    let states = c.in_ok-found.found.states.items in
    let long = length-map ranks (line_of c.args.spec.now.run) in
    let few : length run.lines < 2 ^ 63 = subst (λ n. n < 2 ^ 63) (sym long) c.requires.few in
    let are = subst (λ n. AreOfLines c.args.tables.now run c.args.kind shown n states) (sym long) (c.in_ok-found.ensures.states c.args.kind) in
    let told = lines-told c.args.kind c.args.tables.now run shown states c.ranks_are_unique.ensures.alone c.known.ensures (drawn-some c.args.spec.now.run ranks c.requires.some) few are in
    subst (λ fs. AreTellable c.args.kind run (length shown) fs) (sym c.deref.ensures.value)
    (tellable c.args.kind c.args.tables.now run shown c.ranks_are_unique.ensures.alone states told)

pub returns : goal.returns
returns c =
    let ranks = c.args.ranks.now in
    let run = drawn c.args.spec.now.run ranks in
    let shown = c.in_ok-found.found.shows in
    let states = c.in_ok-found.found.states.items in
    let long = length-map ranks (line_of c.args.spec.now.run) in
    let few : length run.lines < 2 ^ 63 = subst (λ n. n < 2 ^ 63) (sym long) c.requires.few in
    let are = subst (λ n. AreOfLines c.args.tables.now run c.args.kind shown n states) (sym long) (c.in_ok-found.ensures.states c.args.kind) in
    let told = lines-told c.args.kind c.args.tables.now run shown states c.ranks_are_unique.ensures.alone c.known.ensures (drawn-some c.args.spec.now.run ranks c.requires.some) few are in
    IfOk-weaker c.told_classes.result _ _
    (λ classes is. are-classes c.args.kind c.args.tables.now run shown c.ranks_are_unique.ensures.alone states classes.items told
    (subst (λ fs. AreClassesBy c.args.kind run shown fs classes.items) c.deref.ensures.value is) c.known.ensures)
    c.told_classes.ensures
