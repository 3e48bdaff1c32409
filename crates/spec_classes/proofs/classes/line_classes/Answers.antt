use Rattle.std.proofs.Common.{◌<◌, ◌≢◌, ◌^◌, [], All, List, ℕ, length, sym, subst, arith}
use Rattle.std.proofs.lemmas.Result.{IfOk-weaker}
use Rattle.bound_specs.specs.Spec.{ranks as count_of}
use Rattle.spec_classes.specs.Classes.{AreClassesOf, drawn}
use Rattle.spec_classes.proofs.LineTold.{ranks-some, drawn-length}
use Rattle.spec_classes.proofs.classes.line_classes.Goals as goal

pub rank_classes-requires-clause-inside : goal.rank_classes-requires-clause-inside
rank_classes-requires-clause-inside c = subst (All (λ r. r < count_of c.args.spec.now.run)) (sym c.deref.ensures.value) c.in_ok-ranks.ensures.inside

pub rank_classes-requires-clause-some : goal.rank_classes-requires-clause-some
rank_classes-requires-clause-some c =
    subst (λ (l : List ℕ). l ≢ []) (sym c.deref.ensures.value) (ranks-some c.args.spec.now.run c.in_ok-ranks.ranks.items c.requires.lines c.in_ok-ranks.ensures.all)

pub returns : goal.returns
returns c = IfOk-weaker c.rank_classes.result _ _
    (λ classes are. subst (λ run. AreClassesOf c.args.kind c.args.tables.now run classes.items) c.in_ok-ranks.ensures.all
    (subst (λ (l : List ℕ). AreClassesOf c.args.kind c.args.tables.now (drawn c.args.spec.now.run l) classes.items) c.deref.ensures.value are)) c.rank_classes.ensures

pub rank_classes-requires-clause-few : goal.rank_classes-requires-clause-few
rank_classes-requires-clause-few c =
    let long = drawn-length c.args.spec.now.run c.in_ok-ranks.ranks.items c.in_ok-ranks.ensures.all in
    let few = c.ready.ensures.few_lines in
    subst (λ (l : List ℕ). length l < 2 ^ 63) (sym c.deref.ensures.value) (omega (arith, long, few))
