-- The JSON of what is shown of an order.
use Rattle.std.specs.Prelude.{ℕ, ◌+◌, List, [], ◌∷◌, ◌++◌, Option, codes, decimal, zip}
use Rattle.bound_statements.specs.declared.statement.Level.{Level}
use Rattle.lock_modes.specs.Rows.{Tuple}
use Rattle.lock_modes.specs.declared.value.Value.{Value}
use Rattle.line_moments.specs.declared.shown.Begun.{Begun}
use Rattle.line_moments.specs.declared.shown.Left.{Left}
use Rattle.line_moments.specs.declared.shown.Shown.{Shown}
use Rattle.line_moments.specs.declared.shown.Standing.{Standing}
use Rattle.line_moments.specs.declared.shown.Standing.TheVariants.{HasEnded, IsOpen, HasFailed, StillWaits}
use Rattle.shown_values.specs.declared.page.Page.{Page}
use Rattle.shown_values.specs.Strings.{array_json, string_json}
use Rattle.shown_values.specs.Words.{name_of, status_json, tuple_json}
use Rattle.shown_values.specs.Levels.{levels_json}
use Rattle.shown_values.specs.Moments.{lock_json, moment_json}

-- a step by its name, its session and its statements
abbrev pub step_json : List ℕ × (ℕ × List ℕ) → List ℕ
step_json step =
    (codes "{\"name\":" ++ string_json step.0) ++ (codes ",\"session\":" ++ decimal step.1.0) ++ (codes ",\"sql\":" ++ string_json step.1.1) ++ codes "}"

abbrev pub begun_json : List Left → Begun → List ℕ
begun_json tables begun =
    (codes "{\"status\":" ++ status_json begun.status) ++ (codes ",\"locks\":" ++ array_json (lock_json tables) begun.locks) ++ codes "}"

-- a row without its key
abbrev pub entry_json : Value × Tuple → List ℕ
entry_json entry = tuple_json entry.1

-- a table by its name and its rows
abbrev pub table_json : List ℕ → List (Value × Tuple) → List ℕ
table_json name rows = (codes "{\"table\":" ++ string_json name) ++ (codes ",\"rows\":" ++ array_json entry_json rows) ++ codes "}"

abbrev pub left_json : Left → List ℕ
left_json left = table_json (name_of left) left.rows

-- how a session stands that has not ended, behind its number
abbrev pub open_of : ℕ → Standing → List (ℕ × List ℕ)
open_of session HasEnded = []
open_of session IsOpen = (session, codes "\"in\"") ∷ []
open_of session HasFailed = (session, codes "\"failed\"") ∷ []
open_of session (StillWaits want) = (session, codes "\"waits\"") ∷ []

-- by what this tells of each, the same of sessions numbered from this one on
abbrev pub opens_by : {X : Type 0} → (ℕ → X → List (ℕ × List ℕ)) → ℕ → List X → List (ℕ × List ℕ)
opens_by tells session [] = []
opens_by tells session (standing ∷ standings) = tells session standing ++ opens_by tells (session + 1) standings

abbrev pub open_from : ℕ → List Standing → List (ℕ × List ℕ)
open_from session standings = opens_by open_of session standings

abbrev pub open_json : ℕ × List ℕ → List ℕ
open_json pair = codes "[" ++ decimal pair.0 ++ codes "," ++ pair.1 ++ codes "]"

-- what is told of an order: the level that is asked for, if any, and the lines of the file with another one; by the numbers of sessions and steps their
-- names, and of each step its session and its statements
pub record Sheet : Type 0 where
  pub name : List ℕ
  pub rank : ℕ
  pub orders : ℕ
  pub level : Option Level
  pub other_lines : List ℕ
  pub session_names : List (List ℕ)
  pub step_names : List (List ℕ)
  pub step_sessions : List ℕ
  pub statements : List (List ℕ)
  pub line : List ℕ
  pub shown : Shown

abbrev pub sheet_of : Page → Sheet
sheet_of page =
    record {
      name = page.name.now;
      rank = page.rank;
      orders = page.orders;
      level = page.levels.now.asked;
      other_lines = page.levels.now.other_lines.items;
      session_names = page.session_names.now;
      step_names = page.step_names.now;
      step_sessions = page.step_sessions.now;
      statements = page.statements.now;
      line = page.line.now;
      shown = page.shown.now;
    }

-- what the order is
abbrev pub order_json : Sheet → List ℕ
order_json sheet =
    (codes "{\"format\":1,\"name\":" ++ string_json sheet.name) ++ (codes ",\"rank\":" ++ decimal sheet.rank)
    ++ (codes ",\"orders\":" ++ decimal sheet.orders)

-- what its numbers stand for
abbrev pub numbers_json : Sheet → List ℕ
numbers_json sheet =
    (codes ",\"sessions\":" ++ array_json string_json sheet.session_names)
    ++ (codes ",\"steps\":" ++ array_json step_json (zip sheet.step_names (zip sheet.step_sessions sheet.statements)))
    ++ (codes ",\"order\":" ++ array_json decimal sheet.line)

-- what is shown of it, with the names of the steps
abbrev pub shown_json : List (List ℕ) → Shown → List ℕ
shown_json steps shown =
    (codes ",\"begun\":" ++ array_json (begun_json shown.first) shown.begun) ++ (codes ",\"first\":" ++ array_json left_json shown.first)
    ++ (codes ",\"moments\":" ++ array_json (moment_json shown.first steps) shown.moments)
    ++ (codes ",\"left\":" ++ array_json left_json shown.left) ++ (codes ",\"open\":" ++ array_json open_json (open_from 0 shown.standings))

abbrev pub page_json : Sheet → List ℕ
page_json sheet =
    order_json sheet ++ levels_json sheet.level sheet.other_lines ++ numbers_json sheet ++ shown_json sheet.step_names sheet.shown ++ codes "}\n"
