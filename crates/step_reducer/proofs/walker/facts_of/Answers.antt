use Rattle.std.proofs.Common.{◌≡◌, sym, ap, ◌∙◌, subst, ◌+◌, ◌-◌, ◌≤◌, ◌++◌, ◌∷◌, [], arith}
use Rattle.bound_specs.specs.Spec.{SpecFile}
use Rattle.rank_facts.specs.Facts.{IsFactOf}
use Rattle.step_reducer.specs.Walking.{Walking, GivesFact, AreFacts}
use Rattle.step_reducer.proofs.Shards.{facts-push}
use Rattle.step_reducer.proofs.walker.facts_of.Goals as goal

pub loop-rank-preserved : goal.loop-rank-preserved
loop-rank-preserved c =
    let w = c.args.walker.now in
    let x = c.loop-rank.walker in
    let y = c.next.new.self in
    let inv = c.loop-rank.invariant in
    let rank = c.loop-rank._rank in
    let p = c.in-Ok-Some.fact in
    let gives = subst (GivesFact x y) c.in-Ok-Some.field-0-is c.in-Ok-Some.ensures.fact in
    let from = c.requires.first in
    let at = inv.at in
    let low : w.at ≤ rank = omega (arith, from, c.loop-rank.auto._rank) in
    let sum : w.at + (rank - w.at) ≡ rank = omega arith in
    let more : rank - w.at + 1 ≡ rank + 1 - w.at = omega arith in
    let place : p.0 ≡ w.at + (rank - w.at) = gives.0 ∙ at ∙ sym sum in
    let here : IsFactOf w.reduce w.file.run x.at p.1 =
    subst (λ (f : SpecFile). IsFactOf w.reduce f.run x.at p.1) inv.file (subst (λ b. IsFactOf b x.file.run x.at p.1) inv.reduce gives.2) in
    let fact : IsFactOf w.reduce w.file.run (w.at + (rank - w.at)) p.1 = subst (λ n. IsFactOf w.reduce w.file.run n p.1) (at ∙ sym sum) here in
    record {
      file = ap (λ (v : Walking). v.file) gives.4 ∙ inv.file;
      reduce = ap (λ (v : Walking). v.reduce) gives.4 ∙ inv.reduce;
      end = ap (λ (v : Walking). v.end) gives.4 ∙ inv.end;
      at = ap (λ (v : Walking). v.at) gives.4 ∙ ap (λ n. n + 1) at;
      spent = ap (λ (v : Walking). v.spent) gives.4 ∙ inv.spent;
      facts = subst (AreFacts w.reduce w.file.run w.at (rank + 1 - w.at)) (sym c.in_ok-push-in-Ok-Some.ensures)
          (subst (λ n. AreFacts w.reduce w.file.run w.at n (c.loop-rank.facts.items ++ p ∷ [])) more
          (facts-push w.reduce w.file.run w.at (rank - w.at) c.loop-rank.facts.items p inv.facts place fact));
    }
