-- The JSON of each class.
use Rattle.std.specs.Prelude.{ℕ, ◌+◌, ◌-◌, Bool, cond, List, [], ◌∷◌, ◌++◌, get_or, codes, decimal}
use Rattle.lock_modes.specs.declared.value.Value.{Value}
use Rattle.events.specs.declared.event.Event.{Event}
use Rattle.binding_model.specs.declared.tables.Table.{Table}
use Rattle.class_stretches.specs.declared.rank_run.RankRun.{RankRun}
use Rattle.order_classes.specs.declared.rows.ClassRow.{ClassRow}
use Rattle.order_classes.specs.declared.rows.Letters.{Letters}
use Rattle.class_texts.specs.declared.kind.ClassKind.{ClassKind}
use Rattle.class_texts.specs.declared.kind.ClassKind.TheVariants.{Shows, Answers, Outcomes}
use Rattle.order_classes.specs.declared.shows.Rest.{Rest}
use Rattle.order_classes.specs.declared.shows.Rest.TheVariants.{HasEnded, IsOpen, HasFailed, StillWaits}
use Rattle.order_classes.specs.declared.shows.Shows.{Shows as Shown}
use Rattle.shown_values.specs.Strings.{array_json, before_item, string_json}
use Rattle.shown_values.specs.Words.{line_json}
use Rattle.shown_values.specs.Page.{open_json, opens_by, table_json}
use Rattle.class_texts.specs.Beneath.{Look}
use Rattle.class_texts.specs.Letters.{letters_text}
use Rattle.class_texts.specs.Pages.{Page}
use Rattle.class_values.specs.Labels.{label}
use Rattle.class_values.specs.declared.label.Label.TheVariants as the

abbrev pub letters_json : ClassKind → Bool → Letters → List ℕ
letters_json by all letters = string_json (letters_text by all letters)

-- the first rank, how many orders, their letters, and the first order
abbrev pub head_json : Page → ClassRow → List ℕ
head_json p row =
    (label the.FirstRank ++ decimal row.least) ++ (label the.ClassOrders ++ decimal row.count)
    ++ (label the.Letters ++ letters_json p.by p.all_orders row.letters) ++ (label the.Order ++ array_json decimal row.line.items)

-- events as lines, where these are the names of the steps
abbrev pub lines_json : List (List ℕ) → List Event → List ℕ
lines_json steps events = array_json (line_json steps) events

-- a table at a place, with the rows that are left in it
abbrev pub table_at : ℕ → Table → List (Value × List Value) → List ℕ
table_at k table rows = before_item (codes ",") k ++ table_json table.name rows

-- the declared tables from this one on
abbrev pub tables_from : List (List (Value × List Value)) → ℕ → List Table → List ℕ
tables_from left k [] = []
tables_from left k (table ∷ tables) = table_at k table (get_or left k []) ++ tables_from left (k + 1) tables

-- how a session stands that has not ended, behind its number
abbrev pub open_of : ℕ → Rest → List (ℕ × List ℕ)
open_of session HasEnded = []
open_of session IsOpen = (session, codes "\"in\"") ∷ []
open_of session HasFailed = (session, codes "\"failed\"") ∷ []
open_of session StillWaits = (session, codes "\"waits\"") ∷ []

abbrev pub tables_json : List Table → List (List (Value × List Value)) → List ℕ
tables_json tables left = codes "[" ++ tables_from left 0 tables ++ codes "]"

-- how sessions stand that have not ended
abbrev pub rests_json : List Rest → List ℕ
rests_json rests = array_json open_json (opens_by open_of 0 rests)

-- what is left, and how sessions stand, which is no answer; books know nothing of either
abbrev pub left_part : ClassKind → List Table → Shown → List ℕ
left_part Shows tables shows = (label the.FinalRows ++ tables_json tables shows.left) ++ (label the.Open ++ rests_json shows.rests)
left_part Answers tables shows = label the.FinalRows ++ tables_json tables shows.left
left_part Outcomes tables shows = []

-- what each session is told, and what is left
abbrev pub shows_json : Page → Shown → List ℕ
shows_json p shows = (label the.Transcripts ++ array_json (lines_json p.steps) shows.told) ++ left_part p.by p.tables shows

-- what a look sees of the class at this place
abbrev pub seen_json : List (List ℕ) → ℕ → Look → List ℕ
seen_json steps k look = lines_json steps (get_or look.seen k [])

-- the first rank of a range and its last one
abbrev pub range_json : RankRun → List ℕ
range_json run = (codes "[" ++ decimal run.first) ++ (codes "," ++ decimal (run.end - 1)) ++ codes "]"

-- the ranks of the class at this place, where they are asked for
abbrev pub ranks_part : Page → ℕ → List ℕ
ranks_part p k = cond p.with_ranks (codes ",\"ranks\":" ++ array_json range_json (get_or p.ranks k [])) []

abbrev pub class_json : Page → ℕ → ClassRow → List ℕ
class_json p k row =
    head_json p row ++ shows_json p row.shows ++ (label the.QueryRows ++ array_json (seen_json p.steps k) p.looks) ++ ranks_part p k ++ codes "}"

abbrev pub class_at : Page → ℕ → ClassRow → List ℕ
class_at p k row = before_item (codes ",") k ++ class_json p k row

-- the classes from this place on
abbrev pub classes_from : Page → ℕ → List ClassRow → List ℕ
classes_from p k [] = []
classes_from p k (row ∷ rows) = class_at p k row ++ classes_from p (k + 1) rows

abbrev pub all_json : Page → List ℕ
all_json p = codes ",\"classes\":[" ++ classes_from p 0 p.rows ++ codes "]"

-- none where the totals are told alone
abbrev pub classes_part : Page → List ℕ
classes_part p = cond p.is_brief [] (all_json p)
