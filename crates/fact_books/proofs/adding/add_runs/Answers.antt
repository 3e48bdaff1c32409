use Rattle.std.proofs.Common.{◌-◌, sym, ap, ◌∙◌, ◌++◌, subst, List, length, get_or, take, drop}
use Rattle.std.proofs.lemmas.Result.{on_ok_weaker}
use Rattle.fact_books.specs.declared.run.Run.{Run}
use Rattle.fact_books.specs.declared.run.Tag.TheVariants.{Ran}
use Rattle.fact_books.specs.Runs.{firsts, IsRising, AllTo, AddsAll, KeepsAllSound, KeepsAllFrom, AreAdded}
use Rattle.fact_books.proofs.AddLemmas.{behind-all, rising-behind, first-least, added-behind}
use Rattle.fact_books.proofs.adding.add_runs.Goals as goal

pub merge-requires-clause-left_rising : goal.merge-requires-clause-left_rising
merge-requires-clause-left_rising c =
    let k = c.ended_before-kept.result in
    let all = ap (λ (rs : List Run). take (length rs - k) (drop k rs)) c.deref.ensures.value ∙ behind-all k c.args.runs.now.items in
    subst (λ rs. IsRising (firsts rs)) (sym all) (rising-behind k c.args.runs.now.items c.requires.rising)

pub returns-clause-ok : goal.returns-clause-ok
returns-clause-ok c =
    let k = c.ended_before-kept.result in
    let old = c.args.runs.now.items in
    let more = c.args.more.now in
    let m = c.in_ok-behind.ensures in
    let behind = c.in_ok-behind.behind.items in
    let all = ap (λ (rs : List Run). take (length rs - k) (drop k rs)) c.deref.ensures.value ∙ behind-all k old in
    let none : Run = record { first = 0; end = 0; tag = Ran 0 } in
    let rank = (get_or more 0 none).first in
    let low = subst (λ rs. AllTo rank (firsts (take k rs))) c.as_slice.ensures.value c.ended_before-kept.ensures.low in
    let added = added-behind old more behind k rank c.requires.rising low (first-least more none c.requires.more_rising)
    (subst (λ rs. AddsAll rs more behind) all m.facts) m.rising
    (subst (λ rs. KeepsAllFrom rs more behind) all m.low) (subst (λ rs. KeepsAllSound rs more behind) all m.sound) in
    on_ok_weaker c.put_behind.result (λ is. subst (AreAdded old more) (sym (is ∙ ap (λ rs. take k old ++ rs) c.as_slice-2.ensures.value)) added)
    c.put_behind.ensures.ok
