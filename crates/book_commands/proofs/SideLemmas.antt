-- The texts of what is shown, part by part.
use Rattle.std.specs.Prelude.{◌≡◌, ℕ, ◌+◌, ◌<◌, List, [], ◌∷◌, ◌++◌, length, drop, get_or, slice_get, Option, Some, flat_map, zip}
use Rattle.std.proofs.Common.{refl, sym, ap, ◌∙◌, arith}
use Rattle.std.proofs.lemmas.List.{append-nil, append_assoc, drop_more}
use Rattle.bound_specs.specs.Spec.{SpecFile, line_of}
use Rattle.events.specs.declared.event.Event.{Event}
use Rattle.transcripts.specs.Text.{outcome_text, session_text}
use Rattle.order_names.specs.Spelling.{names_of, order_text}
use Rattle.fact_books.specs.Entries.{Told}
use Rattle.fact_books.specs.Books.{Contents}
use Rattle.book_commands.specs.Kept.{IsKept, AreKept}
use Rattle.book_commands.specs.Nearest.{IsBeneathThese, IsNearest, difference_at, outcome_part, session_part, shown_text}
use Rattle.book_commands.proofs.KeptLemmas.{kept-at}

zip-none : {A B : Type 0} (xs : List A) → zip {X = B} xs [] ≡ []
zip-none [] = refl
zip-none (x ∷ xs) = refl

-- an outcome of one session has the text of that session, with the first of the names
pub alone-text : (names steps : List (List ℕ)) (n : ℕ) (events : List Event) → n < length names
    → outcome_text (drop n names) steps (events ∷ []) ≡ session_text steps (get_or names n [], events)
alone-text names steps n events lt =
    ap (λ ns. outcome_text ns steps (events ∷ [])) (drop_more names n [] lt)
    ∙ ap (λ rest. session_text steps (get_or names n [], events) ++ flat_map (session_text steps) rest) (zip-none (drop (n + 1) names))
    ∙ append-nil (session_text steps (get_or names n [], events))

-- an order is put behind a text, and then what is told of a session
pub part-pushed : (file : SpecFile) (place : ℕ × ℕ) (told : Told) (session : Option (List Event)) (old mid new : List ℕ) → slice_get told place.1 ≡ session
    → mid ≡ old ++ order_text (names_of file (line_of file.run place.0)) → new ≡ mid ++ session_part file place.1 session
    → new ≡ old ++ outcome_part file place told
part-pushed file place told session old mid new is before more =
    let order = order_text (names_of file (line_of file.run place.0)) in
    more ∙ ap (λ t. t ++ session_part file place.1 session) before ∙ append_assoc old order (session_part file place.1 session)
    ∙ ap (λ s. old ++ (order ++ session_part file place.1 s)) (sym is)

-- what is shown of the nearest book and the judged one stands beneath the differences
pub shown-beneath : (here : Contents) (spec : SpecFile) (report : List Told) → IsKept here spec report → (books : List Contents) (specs : List SpecFile)
    (reports : List (List Told)) → AreKept books specs reports → (differences : List (ℕ × ℕ)) (index : ℕ) → IsNearest differences index
    → (there : SpecFile) (accepted : List Told) → slice_get specs index ≡ Some there → slice_get reports index ≡ Some accepted → (text : List ℕ)
    → text ≡ shown_text index there accepted spec report (difference_at differences index) → IsBeneathThese here report books reports differences text
shown-beneath here spec report kept books specs reports are [] index nearest there accepted is has text shows =
    let inside = nearest.inside in
    absurd (omega (arith, inside))
shown-beneath here spec report kept books specs reports are (d ∷ ds) index nearest there accepted is has text shows =
    let at = kept-at books specs reports are index there accepted is has in
    record {
      index = index;
      nearest = nearest;
      there = at.0;
      there_is = at.1;
      accepted = accepted;
      accepted_is = has;
      text_is = shows ∙ (λ i. shown_text index (at.2.spec_is i) accepted (kept.spec_is i) report (difference_at (d ∷ ds) index));
    }
