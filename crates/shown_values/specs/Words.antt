-- Words that stand for modes and states, and the texts of resources and events.
use Rattle.std.specs.Prelude.{ℕ, List, [], ◌∷◌, ◌++◌, Option, Some, None, codes, decimal, get_or, map}
use Rattle.std.specs.List.{join_by}
use Rattle.lock_modes.specs.declared.mode.Mode.{Mode}
use Rattle.lock_modes.specs.declared.mode.Mode.TheVariants.{IntentShare, IntentExclusive, Share, ShareIntent, Exclusive}
use Rattle.lock_modes.specs.declared.resource.Resource.{Resource}
use Rattle.lock_modes.specs.declared.resource.Resource.TheVariants.{Table, Row}
use Rattle.lock_modes.specs.declared.value.Value.{Value}
use Rattle.machine_model.specs.declared.status.Status.{Status}
use Rattle.machine_model.specs.declared.status.Status.TheVariants.{Outside, InBlock, Broken}
use Rattle.line_moments.specs.declared.moment.Manner.{Manner}
use Rattle.line_moments.specs.declared.moment.Manner.TheVariants.{IsSent, IsResumed, IsNotSent}
use Rattle.line_moments.specs.declared.shown.Left.{Left}
use Rattle.events.specs.declared.event.Event.{Event}
use Rattle.events.specs.declared.event.Event.TheVariants.{Sent}
use Rattle.transcripts.specs.Text.{event_text, value_text}
use Rattle.shown_values.specs.Strings.{string_json}

abbrev pub mode_json : Mode → List ℕ
mode_json IntentShare = codes "\"IS\""
mode_json IntentExclusive = codes "\"IX\""
mode_json Share = codes "\"S\""
mode_json ShareIntent = codes "\"SIX\""
mode_json Exclusive = codes "\"X\""

abbrev pub status_json : Status → List ℕ
status_json Outside = codes "\"out\""
status_json (InBlock level) = codes "\"in\""
status_json Broken = codes "\"failed\""

abbrev pub manner_json : Manner → List ℕ
manner_json IsSent = codes "\"sent\""
manner_json IsResumed = codes "\"resumed\""
manner_json IsNotSent = codes "\"notsent\""

-- a number, or null where there is none
abbrev pub number_json : Option ℕ → List ℕ
number_json None = codes "null"
number_json (Some number) = decimal number

abbrev pub name_of : Left → List ℕ
name_of left = left.table.name

-- the name of the table with this number
abbrev pub table_text : List Left → ℕ → List ℕ
table_text tables number = get_or (map name_of tables) number []

-- a table's name, of a row with its key in brackets behind it
abbrev pub resource_text : List Left → Resource → List ℕ
resource_text tables (Table number) = table_text tables number
resource_text tables (Row number key) = table_text tables number ++ codes "[" ++ value_text key ++ codes "]"

abbrev pub resource_json : List Left → Resource → List ℕ
resource_json tables resource = string_json (resource_text tables resource)

-- the values of a row, with a bar between each two
abbrev pub tuple_json : List Value → List ℕ
tuple_json values = string_json (join_by value_text (codes "|") values)

-- the line of an event, where these are the names of the steps
abbrev pub line_json : List (List ℕ) → Event → List ℕ
line_json steps event = string_json (event_text steps event)

-- the events without the one that a step is sent with
abbrev pub told : List Event → List Event
told [] = []
told (Sent step ∷ events) = events
told events = events
