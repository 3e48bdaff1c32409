use Rattle.std.proofs.Common.{◌≡◌, ◌∙◌, ap, subst, sym, []}
use Rattle.std.proofs.lemmas.Result.{IfOk-weaker}
use Rattle.class_stretches.specs.Stretches.{Stretched, AreTallies}
use Rattle.class_stretches.specs.Counting.{counted_all}
use Rattle.class_stretches.proofs.Tallies.{all-tallies}
use Rattle.class_stretches.proofs.stretches.Stretches.tallies.Goals as goal

pub returns : goal.returns
returns c =
    let s = c.self.inside in
    IfOk-weaker c.tallies_of.result _ _
    (λ tallies is. (let all : tallies.items ≡ counted_all [] 0 s.list.items = is ∙ ap (counted_all [] 0) c.deref.ensures.value in
    let told = subst (AreTallies s.list.items s.classes) (sym all) (all-tallies s.list.items s.classes c.self.invariant.order) in
    subst (λ (v : Stretched). AreTallies v.list v.classes tallies.items) c.self.view_is told)) c.tallies_of.ensures
