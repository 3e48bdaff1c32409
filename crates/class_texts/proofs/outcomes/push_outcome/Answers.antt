use Rattle.std.proofs.Common.{ℕ, List, ◌++◌, sym, ap, ◌∙◌, append-nil, flat_map, arith}
use Rattle.std.specs.String.{string_bytes}
use Rattle.class_texts.specs.Beneath.{session_beneath}
use Rattle.events.specs.declared.event.Event.{Event}
use Rattle.class_texts.proofs.ZipLemmas.{zip-spent}
use Rattle.class_texts.proofs.outcomes.push_outcome.Goals as goal

-- no session is left
pub returns : goal.returns
returns c =
    let spent = zip-spent c.loop-session.session c.args.sessions.now c.args.told.now (omega (arith, c.loop-session-test.false, c.min-count.ensures)) in
    sym (append-nil (string_bytes c.loop-session.text))
    ∙ ap (λ (xs : List (List ℕ × List Event)). string_bytes c.loop-session.text ++ flat_map (session_beneath c.args.steps.now) xs) (sym spent)
    ∙ c.loop-session.invariant
