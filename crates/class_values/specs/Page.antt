-- The JSON of classes.
use Rattle.std.specs.Prelude.{ℕ, List, [], ◌++◌, Option, Some, None, codes, decimal, zip}
use Rattle.bound_statements.specs.declared.statement.Level.{Level}
use Rattle.class_texts.specs.declared.kind.ClassKind.{ClassKind}
use Rattle.class_texts.specs.declared.kind.ClassKind.TheVariants.{Shows, Answers, Outcomes}
use Rattle.class_stretches.specs.declared.missing.Missing.{Missing}
use Rattle.order_classes.specs.declared.rows.ClassRow.{ClassRow}
use Rattle.shown_values.specs.Strings.{array_json, string_json}
use Rattle.shown_values.specs.Levels.{levels_json}
use Rattle.shown_values.specs.Page.{step_json}
use Rattle.class_texts.specs.Beneath.{Look}
use Rattle.class_texts.specs.Pages.{Page, seen_once}
use Rattle.class_values.specs.Labels.{label}
use Rattle.class_values.specs.declared.label.Label.TheVariants as the
use Rattle.class_values.specs.Totals.{totals_json}
use Rattle.class_values.specs.Expected.{expected_json}
use Rattle.class_values.specs.Class.{classes_part}

-- how many orders are missing, and the first of them
abbrev pub missing_json : Option Missing → List ℕ
missing_json None = codes "null"
missing_json (Some m) = (codes "{\"orders\":" ++ decimal m.ranks) ++ (codes ",\"first\":" ++ decimal m.first) ++ codes "}"

-- that is told of books
abbrev pub missing_by : ClassKind → Option Missing → List ℕ
missing_by Shows m = []
missing_by Answers m = []
missing_by Outcomes m = codes ",\"missing\":" ++ missing_json m

-- of which spec the classes are, how many orders it has, and how many are told of
abbrev pub orders_json : Page → List ℕ
orders_json p =
    (codes "{\"format\":2,\"name\":" ++ string_json p.path) ++ (codes ",\"orders\":" ++ decimal p.orders)
    ++ (codes ",\"asked\":" ++ decimal p.totals.all.orders)

-- by which seed they were drawn where they are a sample, and how many classes were seen once
abbrev pub sample_json : List ClassRow → Option ℕ → List ℕ
sample_json rows None = []
sample_json rows (Some seed) = (codes ",\"sample\":{\"seed\":" ++ decimal seed) ++ (codes ",\"seen_once\":" ++ decimal (seen_once rows)) ++ codes "}"

-- and which are missing
abbrev pub counts_json : Page → List ℕ
counts_json p = orders_json p ++ sample_json p.rows p.sample ++ missing_by p.by p.missing

-- what the numbers of sessions and steps stand for, by the session and the statements of each step
abbrev pub numbers_json : Page → List ℕ → List (List ℕ) → List ℕ
numbers_json p step_sessions statements =
    (codes ",\"sessions\":" ++ array_json string_json p.sessions)
    ++ (codes ",\"steps\":" ++ array_json step_json (zip p.steps (zip step_sessions statements)))

-- the lines of the file with a level that has no effect: none where one is asked for
abbrev pub idle_json : Option Level → List ℕ → List ℕ
idle_json None lines = codes ",\"level_lines\":" ++ array_json decimal lines
idle_json (Some level) lines = codes ",\"level_lines\":[]"

-- the level that is asked for, or those lines
abbrev pub level_members : Option Level → List ℕ → List ℕ
level_members level lines = levels_json level lines ++ idle_json level lines

abbrev pub levels_part : Page → List ℕ
levels_part p = level_members p.level p.other_lines

abbrev pub by_json : ClassKind → List ℕ
by_json Shows = codes "\"shows\""
by_json Answers = codes "\"answers\""
by_json Outcomes = codes "\"outcomes\""

-- the SELECT as it was given
abbrev pub look_json : Look → List ℕ
look_json look = string_json look.text

-- what is expected, and what looks are at
abbrev pub asked_json : Page → List ℕ
asked_json p = (label the.Expectations ++ array_json (expected_json p.rows) p.expectations) ++ (label the.Queries ++ array_json look_json p.looks)

-- by what the orders are grouped, and what is told of all of them
abbrev pub grouped_json : Page → List ℕ
grouped_json p = (codes ",\"by\":" ++ by_json p.by) ++ (codes ",\"totals\":" ++ totals_json p.by p.all_orders p.totals) ++ asked_json p

-- the whole, by the session and the statements of each step
abbrev pub classes_json : Page → List ℕ → List (List ℕ) → List ℕ
classes_json p step_sessions statements =
    counts_json p ++ numbers_json p step_sessions statements ++ levels_part p ++ grouped_json p ++ classes_part p ++ codes "}\n"
