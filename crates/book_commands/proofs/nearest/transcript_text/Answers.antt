use Rattle.std.proofs.Common.{◌≡◌, ◌<◌, ◌∙◌, ◌++◌, ◌∷◌, ap, ◌-◌, drop, take, length, List, ℕ, [], arith}
use Rattle.std.proofs.lemmas.List.{take_rest}
use Rattle.transcripts.specs.Text.{outcome_text}
use Rattle.book_commands.proofs.SideLemmas.{alone-text}
use Rattle.book_commands.proofs.nearest.transcript_text.Goals as goal

-- what is printed is the session
pub returns-in-Ok : goal.returns-in-Ok
returns-in-Ok c =
    let names = c.args.spec.now.session_names in
    let steps = c.args.spec.now.step_names in
    let session = c.args.session in
    let required = c.requires.session in
    let lt : session < length names = omega (arith, required, c.session_names.ensures.each, ap (λ (l : List (List ℕ)). length l) c.session_names.ensures.are) in
    let all = c.session_names.result.now in
    let printed = outcome_text (take (length all - session) (drop session all)) c.step_names.result.now c.in_ok-outcome.outcome in
    let rest : printed ≡ outcome_text (drop session all) c.step_names.result.now c.in_ok-outcome.outcome =
    ap (λ (l : List (List ℕ)). outcome_text l c.step_names.result.now c.in_ok-outcome.outcome) (take_rest all session) in
    let text : outcome_text (drop session all) c.step_names.result.now c.in_ok-outcome.outcome ≡ outcome_text (drop session names) steps (c.args.transcript.now ∷ []) =
    λ i. outcome_text (drop session (c.session_names.ensures.are i)) (c.step_names.ensures.are i) (c.in_ok-outcome.ensures i) in
    let items = ap (λ out. out.items) c.new-out.ensures.inner ∙ c.new.ensures.items in
    ap (λ out. out.items) c.into_inner.ensures ∙ c.in-Ok.ensures.whole ∙ ap (λ before. before ++ printed) items ∙ rest ∙ text ∙ alone-text names steps session _ lt
