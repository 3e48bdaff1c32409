use Rattle.std.proofs.Common.{sym, ap, ◌∙◌, subst, [], get_or, length, inl, inr}
use Rattle.fact_books.specs.Known.{known_in, AreInside, IsKnown}
use Rattle.fact_books.proofs.KnownLemmas.{inside-more, inside-noted, known-last, known-more, knows-noted, place-inside, place-known}
use Rattle.fact_books.proofs.known.known_place.Goals as goal

-- it was known
pub returns-in-Some-clause-bound : goal.returns-in-Some-clause-bound
returns-in-Some-clause-bound c = place-inside _ _ c.args.number c.in-Some.place _ c.in-Some.ensures.1 c.requires.inside

pub returns-in-Some-clause-at : goal.returns-in-Some-clause-at
returns-in-Some-clause-at c =
    c.requires.name _
    (c.in-Some.ensures.0, place-known c.args.table.now c.args.known.now.places.items c.args.number c.in-Some.place c.in-Some.ensures.0 c.in-Some.ensures.1)

pub returns-in-Some-clause-known : goal.returns-in-Some-clause-known
returns-in-Some-clause-known c =
    let table = c.args.table.now in
    let places = c.args.known.now.places.items in
    let known : IsKnown (known_in table places) c.args.number (get_or table c.in-Some.place []) =
    (c.in-Some.ensures.0, place-known table places c.args.number c.in-Some.place c.in-Some.ensures.0 c.in-Some.ensures.1) in
    subst (IsKnown (known_in c.args.table.now c.args.known.now.places.items) c.args.number) (c.requires.name _ known) known

-- nothing is noted
pub returns-in_err-place-clause-more : goal.returns-in_err-place-clause-more
returns-in_err-place-clause-more c = inl (known-more _ _ _ c.number.ensures.extends c.requires.inside)

pub returns-in_err-note-clause-inside : goal.returns-in_err-note-clause-inside
returns-in_err-note-clause-inside c =
    subst (AreInside (length c.number.new.self)) (sym c.in_err-note.ensures.err) (inside-more _ _ _ c.number.ensures.extends c.requires.inside)

pub returns-in_err-note-clause-more : goal.returns-in_err-note-clause-more
returns-in_err-note-clause-more c =
    inl (ap (known_in c.number.new.self) c.in_err-note.ensures.err ∙ known-more _ _ _ c.number.ensures.extends c.requires.inside)

-- it is noted
pub returns-clause-inside : goal.returns-clause-inside
returns-clause-inside c =
    inside-noted _ _ _ c.args.number c.in_ok-place.place c.in_ok-note.ensures.ok c.in_ok-place.ensures.bound
    (inside-more _ _ _ c.number.ensures.extends c.requires.inside)

pub returns-clause-more : goal.returns-clause-more
returns-clause-more c =
    inr (knows-noted _ _ _ _ c.args.number c.in_ok-place.place c.args.outcome.now c.number.ensures.extends c.requires.inside c.in_ok-note.ensures.ok
    (c.in_ok-place.ensures.at ∙ (c.as_outcome.ensures ∙ c.in_ok-text.ensures)))

pub returns-clause-known : goal.returns-clause-known
returns-clause-known c =
    let now = knows-noted _ _ _ _ c.args.number c.in_ok-place.place c.args.outcome.now c.number.ensures.extends c.requires.inside c.in_ok-note.ensures.ok
    (c.in_ok-place.ensures.at ∙ (c.as_outcome.ensures ∙ c.in_ok-text.ensures)) in
    let before = known_in c.args.table.now c.args.known.now.places.items in
    subst (λ known. IsKnown known c.args.number c.args.outcome.now) (sym now) (length before, known-last before (c.args.number, c.args.outcome.now))
