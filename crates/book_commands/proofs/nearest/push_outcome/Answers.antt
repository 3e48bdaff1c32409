use Rattle.std.proofs.Common.{◌≡◌, ◌<◌, ◌∙◌, sym, ap, subst, get_or, length, slice_get, Some, None, List}
use Rattle.std.proofs.lemmas.Option.{slice_get-get_or, slice_get_past}
use Rattle.std.proofs.lemmas.Result.{on_ok_weaker}
use Rattle.std.specs.List.{All}
use Rattle.events.specs.Fits.{HasStep}
use Rattle.events.specs.declared.event.Event.{Event}
use Rattle.machine_model.proofs.Owned.{outcome-named}
use Rattle.book_commands.proofs.SideLemmas.{part-pushed}
use Rattle.book_commands.proofs.nearest.push_outcome.Goals as goal

-- the session names steps of the spec alone
pub push_transcript-requires-clause-named : goal.push_transcript-requires-clause-named
push_transcript-requires-clause-named c =
    let spec = c.args.spec.now.run in
    let told = c.args.outcome.now in
    let session = c.args.place.1 in
    let transcript = c.in-Some.transcript.now in
    let lt : session < length told = subst (λ (l : List (List Event)). session < length l) c.sessions.ensures c.in-Some.ensures.lookup.3.0 in
    let is : transcript ≡ get_or told session transcript =
    c.in-Some.ensures.lookup.1 ∙ ap (λ (l : List (List Event)). get_or l session transcript) c.sessions.ensures in
    subst (λ (t : List Event). All (HasStep (length spec.steps)) t) (sym is) (outcome-named spec told c.requires.own session transcript lt)

-- there is no such session
pub returns-in-None : goal.returns-in-None
returns-in-None c =
    let told = c.args.outcome.now in
    let session = c.args.place.1 in
    let ended = c.in-None.ensures.lookup.3 in
    let none : slice_get told session ≡ None =
    subst (λ (l : List (List Event)). slice_get l session ≡ None) c.sessions.ensures (slice_get_past c.sessions.result.now session ended) in
    on_ok_weaker c.push_numbered.result (part-pushed c.args.spec.now c.args.place told None _ _ _ none c.in_ok-push_order.ensures) c.push_numbered.ensures

-- it is told
pub returns-in-Some : goal.returns-in-Some
returns-in-Some c =
    let told = c.args.outcome.now in
    let session = c.args.place.1 in
    let transcript = c.in-Some.transcript.now in
    let some : slice_get told session ≡ Some transcript =
    subst (λ (l : List (List Event)). slice_get l session ≡ Some transcript) c.sessions.ensures
    (slice_get-get_or c.sessions.result.now session transcript c.in-Some.ensures.lookup.3.0 ∙ ap Some (sym c.in-Some.ensures.lookup.1)) in
    on_ok_weaker c.push_transcript.result (part-pushed c.args.spec.now c.args.place told (Some transcript) _ _ _ some c.in_ok-push_order.ensures)
    c.push_transcript.ensures
