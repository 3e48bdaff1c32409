use Rattle.std.proofs.Common.{sym, ap, ◌∙◌, subst, length, map, rules}
use Rattle.std.proofs.lemmas.Result.{on_ok_weaker, on_err_weaker}
use Rattle.fact_books.specs.Runs.{AllSound, renamed}
use Rattle.fact_books.specs.Tables.{Names}
use Rattle.fact_books.specs.Books.{IsKept, facts_in}
use Rattle.fact_books.proofs.PushLemmas.{kept-more, same-facts-more}
use Rattle.fact_books.proofs.TableLemmas.{Names-length}
use Rattle.fact_books.proofs.AddLemmas.{rising-renamed, kept-added, facts-added, either}
use Rattle.fact_books.proofs.adding.add_parts.Goals as goal

pub renumber-requires : goal.renumber-requires
renumber-requires c =
    let count = ap length c.as_slice.ensures.value ∙ Names-length _ _ _ c.in_ok-numbers.ensures.names ∙ ap length c.outcomes.ensures in
    record { sound = subst (λ n. AllSound n c.args.others.now) (sym count) c.requires.others_kept.sound }

pub add_runs-requires-clause-more_rising : goal.add_runs-requires-clause-more_rising
add_runs-requires-clause-more_rising c =
    let is = c.as_slice-2.ensures.value ∙ c.in_ok-more.ensures ∙ ap (λ ns. map (renamed ns) c.args.others.now) c.as_slice.ensures.value in
    rising-renamed c.in_ok-numbers.numbers.items c.args.others.now _ is c.requires.others_kept.rising

pub returns-in_err-numbers-clause-kept : goal.returns-in_err-numbers-clause-kept
returns-in_err-numbers-clause-kept c = kept-more _ _ _ c.in_err-numbers.ensures.extends c.requires.kept

pub returns-in_err-numbers-clause-back : goal.returns-in_err-numbers-clause-back
returns-in_err-numbers-clause-back c =
    let same = same-facts-more c.args.table.now c.numbers.new.self c.args.runs.now.items c.in_err-numbers.ensures.extends c.requires.kept.sound in
    search rules

pub returns-in_err-more-clause-kept : goal.returns-in_err-more-clause-kept
returns-in_err-more-clause-kept c = kept-more _ _ _ c.in_ok-numbers.ensures.extends c.requires.kept

pub returns-in_err-more-clause-back : goal.returns-in_err-more-clause-back
returns-in_err-more-clause-back c =
    let same = same-facts-more c.args.table.now c.numbers.new.self c.args.runs.now.items c.in_ok-numbers.ensures.extends c.requires.kept.sound in
    search rules

pub returns-clause-kept : goal.returns-clause-kept
returns-clause-kept c =
    let is = c.as_slice-2.ensures.value ∙ c.in_ok-more.ensures ∙ ap (λ ns. map (renamed ns) c.args.others.now) c.as_slice.ensures.value in
    let n = c.in_ok-numbers.ensures in
    let names = subst (λ os. Names c.numbers.new.self c.in_ok-numbers.numbers.items os) c.outcomes.ensures n.names in
    either c.add_runs.result c.add_runs.ensures.ok c.add_runs.ensures.err
    (kept-added c.numbers.new.self c.args.table.now c.args.other.now c.args.runs.now.items c.args.others.now _ _ names n.extends c.requires.kept
    c.requires.others_kept is c.add_runs.new.runs.items)
    (λ same. subst (IsKept c.numbers.new.self) (sym same) (kept-more _ _ _ n.extends c.requires.kept))

pub returns-clause-added : goal.returns-clause-added
returns-clause-added c =
    let is = c.as_slice-2.ensures.value ∙ c.in_ok-more.ensures ∙ ap (λ ns. map (renamed ns) c.args.others.now) c.as_slice.ensures.value in
    let n = c.in_ok-numbers.ensures in
    let names = subst (λ os. Names c.numbers.new.self c.in_ok-numbers.numbers.items os) c.outcomes.ensures n.names in
    on_ok_weaker c.add_runs.result
    (facts-added c.numbers.new.self c.args.table.now c.args.other.now c.args.runs.now.items c.args.others.now _ _ names n.extends c.requires.kept
    c.requires.others_kept is c.add_runs.new.runs.items) c.add_runs.ensures.ok

pub returns-clause-back : goal.returns-clause-back
returns-clause-back c =
    let more = same-facts-more c.args.table.now c.numbers.new.self c.args.runs.now.items c.in_ok-numbers.ensures.extends c.requires.kept.sound in
    on_err_weaker c.add_runs.result (λ same. ap (facts_in c.numbers.new.self) same ∙ more) c.add_runs.ensures.err
