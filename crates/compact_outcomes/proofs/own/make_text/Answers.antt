use Rattle.std.proofs.Common.{◌≡◌, sym, ap, ◌∙◌, subst, ◌++◌}
use Rattle.std.specs.Prelude.{OnOk, string_bytes}
use Rattle.transcripts.proofs.CompactText.{outcome-text}
use Rattle.compact_outcomes.specs.CompactTexts.{array_text, session_text}
use Rattle.compact_outcomes.proofs.CompactLemmas.{told-text}
use Rattle.compact_outcomes.proofs.own.make_text.Goals as goal

-- the text was made in an empty one, and is the compact text
pub returns : goal.returns
returns c =
    let empty = ap (λ before. before ++ array_text session_text c.sessions.result.now) c.clear.ensures.bytes in
    let made = empty ∙ ap (array_text session_text) c.sessions.ensures ∙ sym (told-text c.args.outcome.now)
    ∙ outcome-text c.args.outcome.now c.requires in
    subst (λ bytes. OnOk c.push_sessions.result (string_bytes c.push_sessions.new.text ≡ bytes)) made c.push_sessions.ensures
