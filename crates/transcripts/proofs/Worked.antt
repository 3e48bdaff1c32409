-- Small outcomes, computed: their texts, and how these are ordered.
use Rattle.std.specs.Prelude.{◌≡◌, refl, List, [], ◌∷◌, codes, pos, negsuc}
use Rattle.std.specs.declared.cmp.Ordering.TheVariants.{Less}
use Rattle.json.specs.Print.{escape_byte}
use Rattle.lock_modes.specs.declared.value.Value.TheVariants.{Int, Text}
use Rattle.events.specs.declared.event.Fault.TheVariants.{Deadlock}
use Rattle.events.specs.declared.event.Event.{Event}
use Rattle.events.specs.declared.event.Event.TheVariants.{Sent, Row, Rows, Inserted, Failed, Waiting, Done}
use Rattle.transcripts.specs.Compact.{digits_in, others_json, outcome_json, outcome_cmp}

-- one session inserts a row, and another one reads it
abbrev inserted_then_read : List (List Event)
inserted_then_read = (Sent 0 ∷ Inserted 1 ∷ Done ∷ []) ∷ (Sent 1 ∷ Row (Int (pos 30) ∷ []) ∷ Rows 1 ∷ Done ∷ []) ∷ []

first_text : outcome_json inserted_then_read
    ≡ codes "[[[\"sent\",0],[\"inserted\",1],\"done\"],[[\"sent\",1],[\"row\",[30]],[\"rows\",1],\"done\"]]"
unfolding digits_in others_json
first_text = refl

-- no sessions, and a session that is told nothing
no_sessions : outcome_json [] ≡ codes "[]"
no_sessions = refl

no_events : outcome_json ([] ∷ []) ≡ codes "[[]]"
unfolding others_json
no_events = refl

-- a row with a number below 0, and a text with a quote, a line feed and a control character
shown : outcome_json ((Row (Int (negsuc 6) ∷ Text (codes "a\"\n\u{1f}") ∷ []) ∷ Failed Deadlock ∷ []) ∷ [])
    ≡ codes "[[[\"row\",[-7,\"a\\\"\\n\\u001f\"]],[\"failed\",3]]]"
unfolding digits_in others_json escape_byte
shown = refl

-- a count of 12 stands behind one of 123, since a closing bracket stands behind every digit
by_bytes : outcome_cmp ((Rows 123 ∷ []) ∷ []) ((Rows 12 ∷ []) ∷ []) ≡ Less
unfolding digits_in others_json
by_bytes = refl

-- in a row it stands before it where another value follows, since a comma stands before every digit
in_a_row : outcome_cmp ((Row (Int (pos 12) ∷ Int (pos 5) ∷ []) ∷ []) ∷ []) ((Row (Int (pos 123) ∷ []) ∷ []) ∷ []) ≡ Less
unfolding digits_in others_json
in_a_row = refl

-- what goes on stands before what ends
goes_on : outcome_cmp ((Waiting ∷ Done ∷ []) ∷ []) ((Waiting ∷ []) ∷ []) ≡ Less
unfolding others_json
goes_on = refl
