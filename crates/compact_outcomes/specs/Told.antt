-- The outcome that a text tells.
use Rattle.std.specs.Prelude.{◌≡◌, ℕ, List, [], IsUtf8, option_and_then, unwrap_or}
use Rattle.serde_json.specs.Read.{read}
use Rattle.events.specs.declared.event.Event.{Event}
use Rattle.transcripts.specs.Compact.{outcome_json}
use Rattle.transcripts.specs.JsonReading.{outcome_in}
use Rattle.transcripts.specs.Outcome.{OutcomeFits}

-- the outcome that the JSON value of a text stands for, and the one of no session where it stands for none
unfoldable pub told_in : List ℕ → List (List Event)
told_in text = unwrap_or (option_and_then outcome_in (read text)) []

-- the text is UTF-8 and the compact one of the outcome that it tells, whose numbers have the widths of their types
pub record IsCompactOutcome (text : List ℕ) : Type 0 where
  pub fits : OutcomeFits (told_in text)
  pub compact : outcome_json (told_in text) ≡ text
  pub utf8 : IsUtf8 text
