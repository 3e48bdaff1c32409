use Rattle.std.proofs.Common.{sym, ap, subst, ◌∙◌, inl, Ok}
use Rattle.std.specs.FinSet.{from_list}
use Rattle.bound_specs.specs.Spec.{ranks}
use Rattle.serde_json.specs.View.{items_view}
use Rattle.fact_books.specs.Books.{AllRecordable}
use Rattle.book_format.specs.ReadingFacts.{AreUnder, RanksBelow, entries_of}
use Rattle.book_format.proofs.FactLaws.{read-under, read-below, facts-recordable}
use Rattle.book_format.proofs.reading.facts.book_of_facts.Goals as goal

pub built-requires-clause-rising : goal.built-requires-clause-rising
built-requires-clause-rising c =
    subst (λ fs. AreUnder (entries_of fs)) (sym c.as_slice.ensures.value)
    (read-under c.args.spec.now.run (items_view c.args.values.now) (entries_of c.in-Ok.facts.items) c.in-Ok.ensures)

pub built-requires-clause-few : goal.built-requires-clause-few
built-requires-clause-few c =
    subst (λ n. RanksBelow n (entries_of c.as_slice.result.now)) (sym c.ranks.ensures)
    (subst (λ fs. RanksBelow (ranks c.args.spec.now.run) (entries_of fs)) (sym c.as_slice.ensures.value)
    (read-below c.args.spec.now.run (items_view c.args.values.now) (entries_of c.in-Ok.facts.items) c.in-Ok.ensures))

pub of_facts-requires-clause-recordable : goal.of_facts-requires-clause-recordable
of_facts-requires-clause-recordable c =
    subst (AllRecordable c.args.spec.now.run) (sym (c.in_ok-builder.ensures ∙ ap (λ fs. from_list (entries_of fs)) c.as_slice.ensures.value))
    (facts-recordable c.args.spec.now.run (items_view c.args.values.now) (entries_of c.in-Ok.facts.items) c.in-Ok.ensures)

pub returns : goal.returns
returns c =
    let made = c.in_ok-of_facts.ensures in
    let facts = made.facts ∙ c.in_ok-builder.ensures ∙ ap (λ fs. from_list (entries_of fs)) c.as_slice.ensures.value in
    inl (entries_of c.in-Ok.facts.items, c.in-Ok.ensures, λ i. Ok (record { file = made.file i; facts = facts i }))
