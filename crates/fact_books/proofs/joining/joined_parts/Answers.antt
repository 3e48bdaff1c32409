use Rattle.std.proofs.Common.{sym, ap, ◌∙◌, subst, length, map}
use Rattle.fact_books.specs.Runs.{AllSound, renamed, AreAdded}
use Rattle.fact_books.specs.Tables.{Names, Extends}
use Rattle.fact_books.proofs.TableLemmas.{Names-length}
use Rattle.fact_books.proofs.AddLemmas.{rising-renamed, kept-added, facts-added}
use Rattle.fact_books.proofs.joining.joined_parts.Goals as goal

pub renumber-requires : goal.renumber-requires
renumber-requires c =
    let count = ap length c.as_slice.ensures.value ∙ Names-length _ _ _ c.in_ok-numbers.ensures.names ∙ ap length c.outcomes.ensures in
    record { sound = subst (λ n. AllSound n c.args.others.now) (sym count) c.requires.others_kept.sound }

pub merge-requires-clause-right_rising : goal.merge-requires-clause-right_rising
merge-requires-clause-right_rising c =
    let is = c.as_slice-2.ensures.value ∙ c.in_ok-renumbered.ensures ∙ ap (λ ns. map (renamed ns) c.args.others.now) c.as_slice.ensures.value in
    rising-renamed c.in_ok-numbers.numbers.items c.args.others.now _ is c.requires.others_kept.rising

pub returns-clause-kept : goal.returns-clause-kept
returns-clause-kept c =
    let is = c.as_slice-2.ensures.value ∙ c.in_ok-renumbered.ensures ∙ ap (λ ns. map (renamed ns) c.args.others.now) c.as_slice.ensures.value in
    let n = c.in_ok-numbers.ensures in
    let m = c.in_ok-merged.ensures in
    let added : AreAdded c.args.runs.now c.as_slice-2.result.now c.in_ok-merged.merged.items = record { facts = m.facts; rising = m.rising; sound = m.sound } in
    kept-added c.numbers.new.self c.args.table.now c.args.other.now c.args.runs.now c.args.others.now _ _
    (subst (λ os. Names c.numbers.new.self c.in_ok-numbers.numbers.items os) c.outcomes.ensures n.names)
    (subst (λ os. Extends os c.numbers.new.self) c.in_ok-joined.ensures n.extends) c.requires.kept c.requires.others_kept is _ added

pub returns-clause-facts : goal.returns-clause-facts
returns-clause-facts c =
    let is = c.as_slice-2.ensures.value ∙ c.in_ok-renumbered.ensures ∙ ap (λ ns. map (renamed ns) c.args.others.now) c.as_slice.ensures.value in
    let n = c.in_ok-numbers.ensures in
    let m = c.in_ok-merged.ensures in
    let added : AreAdded c.args.runs.now c.as_slice-2.result.now c.in_ok-merged.merged.items = record { facts = m.facts; rising = m.rising; sound = m.sound } in
    facts-added c.numbers.new.self c.args.table.now c.args.other.now c.args.runs.now c.args.others.now _ _
    (subst (λ os. Names c.numbers.new.self c.in_ok-numbers.numbers.items os) c.outcomes.ensures n.names)
    (subst (λ os. Extends os c.numbers.new.self) c.in_ok-joined.ensures n.extends) c.requires.kept c.requires.others_kept is _ added
