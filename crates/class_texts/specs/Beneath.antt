-- What stands beneath a class: its ranks, what its first order tells each session, its final rows, and what queries find there.
use Rattle.std.specs.Prelude.{ℕ, ◌+◌, ◌-◌, ◌==◌, Bool, true, false, cond, List, [], ◌∷◌, ◌++◌, map, get_or, codes, decimal, flat_map, zip}
use Rattle.std.specs.List.{list_any}
use Rattle.lock_modes.specs.declared.value.Value.{Value}
use Rattle.events.specs.declared.event.Event.{Event}
use Rattle.events.specs.declared.event.Event.TheVariants.{Row, Failed}
use Rattle.transcripts.specs.Text.{event_line}
use Rattle.binding_model.specs.declared.tables.Table.{Table}
use Rattle.class_stretches.specs.declared.rank_run.RankRun.{RankRun}
use Rattle.class_texts.specs.declared.kind.ClassKind.{ClassKind}
use Rattle.class_texts.specs.declared.kind.ClassKind.TheVariants.{Shows, Answers, Outcomes}
use Rattle.order_classes.specs.declared.shows.Rest.{Rest}
use Rattle.order_classes.specs.declared.shows.Rest.TheVariants.{HasEnded, IsOpen, HasFailed, StillWaits}
use Rattle.order_classes.specs.declared.shows.Shows.{Shows as Shown}
use Rattle.shown_texts.specs.Characters.{shown_text}
use Rattle.shown_texts.specs.Lanes.{words}
use Rattle.shown_texts.specs.Words.{values_text}

-- it stands behind so many blanks. They do not unfold: what stands behind them does not go by their number
unfoldable pub margin : List ℕ
margin = codes "          "

-- ---- ranks

-- the first rank of a range and its last one, or the only one
abbrev pub range_text : RankRun → List ℕ
range_text run = cond (run.first == run.end - 1) (decimal run.first) (decimal run.first ++ (codes "-" ++ decimal (run.end - 1)))

abbrev pub behind_range : RankRun → List ℕ
behind_range run = 32 ∷ range_text run

-- ranges with a blank in front of each
abbrev pub ranks_text : List RankRun → List ℕ
ranks_text runs = codes "ranks" ++ flat_map behind_range runs

-- ---- what an order tells each session

abbrev pub event_beneath : List (List ℕ) → Event → List ℕ
event_beneath steps event = margin ++ event_line steps event

abbrev pub name_beneath : List ℕ → List ℕ
name_beneath name = margin ++ (codes "session " ++ (name ++ codes "\n"))

abbrev pub session_beneath : List (List ℕ) → List ℕ × List Event → List ℕ
session_beneath steps s = name_beneath s.0 ++ flat_map (event_beneath steps) s.1

-- the outcome text, each of its lines behind the margin
abbrev pub outcome_beneath : List (List ℕ) → List (List ℕ) → List (List Event) → List ℕ
outcome_beneath sessions steps told = flat_map (session_beneath steps) (zip sessions told)

-- ---- rows on one line

abbrev pub row_text : List Value → List ℕ
row_text values = shown_text (values_text values)

abbrev pub behind_comma : List Value → List ℕ
behind_comma values = codes ", " ++ row_text values

abbrev pub rows_text : List (List Value) → List ℕ
rows_text [] = codes "no row"
rows_text (row ∷ rows) = row_text row ++ flat_map behind_comma rows

-- ---- final rows

abbrev pub values_of : Value × List Value → List Value
values_of entry = entry.1

-- the final rows of a table, behind a margin
abbrev pub table_line : List ℕ → Table → List (Value × List Value) → List ℕ
table_line front table rows = front ++ (shown_text table.name ++ (codes ": " ++ rows_text (map values_of rows)))

-- of the declared tables from this one on
abbrev pub tables_from : List ℕ → List (List (Value × List Value)) → ℕ → List Table → List (List ℕ)
tables_from front left k [] = []
tables_from front left k (t ∷ ts) = table_line front t (get_or left k []) ∷ tables_from front left (k + 1) ts

-- how a session stands that has not ended
abbrev pub rest_text : Rest → List ℕ
rest_text HasEnded = []
rest_text IsOpen = codes " is in a transaction"
rest_text HasFailed = codes " is in a failed block"
rest_text StillWaits = codes " waits"

abbrev pub rest_lines : List ℕ → List ℕ → List (List ℕ)
rest_lines name [] = []
rest_lines name (c ∷ cs) = (margin ++ (shown_text name ++ c ∷ cs)) ∷ []

-- the sessions from this one on that have not ended
abbrev pub rests_from : List (List ℕ) → ℕ → List Rest → List (List ℕ)
rests_from sessions n [] = []
rests_from sessions n (r ∷ rs) = rest_lines (get_or sessions n []) (rest_text r) ++ rests_from sessions (n + 1) rs

-- how sessions stand is no part of a result
abbrev pub rests_by : ClassKind → List (List ℕ) → List Rest → List (List ℕ)
rests_by Shows sessions rests = rests_from sessions 0 rests
rests_by Answers sessions rests = []
rests_by Outcomes sessions rests = []

-- where nothing is to be said, that is
abbrev pub or_nothing : List (List ℕ) → List (List ℕ)
or_nothing [] = (margin ++ codes "nothing") ∷ []
or_nothing (line ∷ lines) = line ∷ lines

abbrev pub left_lines : ClassKind → List Table → List (List ℕ) → Shown → List (List ℕ)
left_lines by tables sessions s = or_nothing (tables_from margin s.left 0 tables ++ rests_by by sessions s.rests)

-- ---- queries

-- a SELECT as it was given, and what it sees of the final rows, class by class in the order of the rows
pub record Look : Type 0 where
  pub text : List ℕ
  pub seen : List (List Event)

abbrev pub behind_row : Event → List (List Value) → List (List Value)
behind_row (Row row) rows = row ∷ rows
behind_row event rows = rows

-- the rows that events tell of
abbrev pub rows_of : List Event → List (List Value)
rows_of [] = []
rows_of (event ∷ events) = behind_row event (rows_of events)

abbrev pub is_failure : Event → Bool
is_failure (Failed fault) = true
is_failure event = false

-- the failure alone where a SELECT fails, and else this
abbrev pub unless_failed : List (List ℕ) → List Event → List ℕ → List ℕ
unless_failed steps events text = cond (list_any is_failure events) (flat_map (words steps) events) text

abbrev pub seen_text : List (List ℕ) → List Event → List ℕ
seen_text steps events = unless_failed steps events (rows_text (rows_of events))

-- what it sees of the class at this place
abbrev pub look_line : List (List ℕ) → ℕ → Look → List ℕ
look_line steps k look = margin ++ (codes "query " ++ (shown_text look.text ++ (codes ": " ++ seen_text steps (get_or look.seen k []))))
