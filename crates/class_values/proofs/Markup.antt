-- No part of the JSON of classes has a sign that markup is made of.
use Rattle.std.specs.Prelude.{refl, ℕ, zero, suc, ◌+◌, ◌-◌, Bool, true, false, cond, List, [], ◌∷◌, get_or, Option, Some, None, option_map, ◌++◌, codes, decimal, zip}
use Rattle.std.specs.List.{join_by}
use Rattle.std.proofs.lemmas.List.Folds.{list_any-append}
use Rattle.lock_modes.specs.declared.value.Value.{Value}
use Rattle.events.specs.declared.event.Event.{Event}
use Rattle.binding_model.specs.declared.tables.Table.{Table}
use Rattle.bound_statements.specs.declared.statement.Level.{Level}
use Rattle.class_stretches.specs.declared.rank_run.RankRun.{RankRun}
use Rattle.order_classes.specs.declared.rows.ClassRow.{ClassRow}
use Rattle.order_classes.specs.declared.rows.Total.{Total}
use Rattle.order_classes.specs.declared.rows.Totals.{Totals}
use Rattle.class_texts.specs.declared.kind.ClassKind.{ClassKind}
use Rattle.class_texts.specs.declared.kind.ClassKind.TheVariants.{Shows, Answers, Outcomes}
use Rattle.class_stretches.specs.declared.missing.Missing.{Missing}
use Rattle.order_classes.specs.declared.shows.Rest.{Rest}
use Rattle.order_classes.specs.declared.shows.Rest.TheVariants.{HasEnded, IsOpen, HasFailed, StillWaits}
use Rattle.order_classes.specs.declared.shows.Shows.{Shows as Shown}
use Rattle.shown_values.specs.Laws.{IsFree}
use Rattle.shown_values.specs.Strings.{array_json, before_item, string_json}
use Rattle.shown_values.specs.Levels.{levels_json}
use Rattle.shown_values.specs.Words.{line_json}
use Rattle.shown_values.specs.Page.{open_json, opens_by, step_json}
use Rattle.shown_values.proofs.Markup.{EachFree, array-free, both, decimal-free, every, items-free, join-free, levels-free, number-free, pair-free, step-free, string-free, table-free}
use Rattle.class_texts.specs.declared.letters.Letter.{Letter}
use Rattle.class_texts.specs.declared.letters.Letter.TheVariants.{Waits, Deadlock, Error, Unsent, Stuck, NotSerial}
use Rattle.class_texts.specs.Letters.{letters_of, letters_text}
use Rattle.class_texts.specs.Beneath.{Look}
use Rattle.class_texts.specs.Expected.{Expectation, first_miss, met_from}
use Rattle.class_texts.specs.Pages.{Page, seen_once}
use Rattle.class_values.specs.Labels.{label}
use Rattle.class_values.specs.declared.label.Label.{Label}
use Rattle.class_values.specs.declared.label.Label.TheVariants as the
use Rattle.class_values.specs.Totals.{letter_json, told_total, total_json, totals_json}
use Rattle.class_values.specs.Expected.{expected_json, least_of, so_json, value_json, wanted_json}
use Rattle.class_values.specs.Class.{class_at, class_json, classes_from, classes_part, head_json, left_part, lines_json, open_of, range_json}
use Rattle.class_values.specs.Class.{ranks_part, rests_json, seen_json, shows_json, table_at, tables_from, tables_json}
use Rattle.class_values.specs.Page.{asked_json, by_json, classes_json, counts_json, grouped_json, idle_json, levels_part, look_json, missing_by, missing_json, numbers_json, sample_json}

-- one of two texts
one-free : (b : Bool) (xs ys : List ℕ) → IsFree xs → IsFree ys → IsFree (cond b xs ys)
one-free true xs ys f g = f
one-free false xs ys f g = g

before-free : (place : ℕ) → IsFree (before_item (codes ",") place)
before-free zero = refl
before-free (suc place) = refl

label-free : (l : Label) → IsFree (label l)
unfolding label
label-free the.FirstRank = refl
label-free the.ClassOrders = refl
label-free the.Letters = refl
label-free the.Order = refl
label-free the.Transcripts = refl
label-free the.FinalRows = refl
label-free the.Open = refl
label-free the.QueryRows = refl
label-free the.Expectations = refl
label-free the.Queries = refl

-- ---- totals

total-free : (total : Option Total) → IsFree (total_json total)
total-free None = refl
total-free (Some total) = simp (list_any-append, decimal-free total.orders, decimal-free total.classes)

letter-free : (by : ClassKind) (all : Bool) (totals : Totals) (letter : Letter) → IsFree (letter_json by all totals letter)
letter-free by all totals Waits = total-free (told_total by all totals Waits)
letter-free by all totals Deadlock = total-free (told_total by all totals Deadlock)
letter-free by all totals Error = total-free (told_total by all totals Error)
letter-free by all totals Unsent = total-free (told_total by all totals Unsent)
letter-free by all totals Stuck = total-free (told_total by all totals Stuck)
letter-free by all totals NotSerial = total-free (told_total by all totals NotSerial)

totals-free : (by : ClassKind) (all : Bool) (totals : Totals) → IsFree (totals_json by all totals)
totals-free by all totals =
    let letters = join-free (letter_json by all totals) (letters_of Shows true) (every (letter_json by all totals) (letter-free by all totals) (letters_of Shows true)) in
    both (join_by (letter_json by all totals) (codes ",") (letters_of Shows true)) (codes "}") letters refl

-- ---- what is expected

value-free : (value : Value) → IsFree (value_json value)
value-free value = string-free _

expected-free : (rows : List ClassRow) (e : Expectation) → IsFree (expected_json rows e)
expected-free rows e =
    let wanted : IsFree (wanted_json e) = simp (list_any-append, string-free e.text, array-free value_json value-free e.values) in
    let so : IsFree (so_json rows e) =
    simp (list_any-append, decimal-free (met_from e 0 rows), number-free (option_map least_of (first_miss e 0 rows))) in
    both (wanted_json e) (so_json rows e) wanted so

-- ---- a class

head-free : (p : Page) (row : ClassRow) → IsFree (head_json p row)
head-free p row =
    simp (
      list_any-append,
      label-free the.FirstRank,
      label-free the.ClassOrders,
      label-free the.Letters,
      label-free the.Order,
      decimal-free row.least,
      decimal-free row.count,
      string-free (letters_text p.by p.all_orders row.letters),
      array-free decimal decimal-free row.line.items,
    )

line-free : (steps : List (List ℕ)) (event : Event) → IsFree (line_json steps event)
line-free steps event = string-free _

lines-free : (steps : List (List ℕ)) (events : List Event) → IsFree (lines_json steps events)
lines-free steps events = array-free (line_json steps) (line-free steps) events

table-at-free : (k : ℕ) (table : Table) (rows : List (Value × List Value)) → IsFree (table_at k table rows)
table-at-free k table rows = simp (list_any-append, before-free k, table-free table.name rows)

tables-free : (left : List (List (Value × List Value))) (k : ℕ) (tables : List Table) → IsFree (tables_from left k tables)
tables-free left k [] = refl
tables-free left k (table ∷ tables) =
    both (table_at k table (get_or left k [])) (tables_from left (k + 1) tables) (table-at-free k table (get_or left k [])) (tables-free left (k + 1) tables)

-- how each session stands that has not ended
each-open-free : (session : ℕ) (rests : List Rest) → EachFree open_json (opens_by open_of session rests)
each-open-free session [] = tt
each-open-free session (HasEnded ∷ rests) = each-open-free (session + 1) rests
each-open-free session (IsOpen ∷ rests) = (pair-free session (codes "\"in\"") refl, each-open-free (session + 1) rests)
each-open-free session (HasFailed ∷ rests) = (pair-free session (codes "\"failed\"") refl, each-open-free (session + 1) rests)
each-open-free session (StillWaits ∷ rests) = (pair-free session (codes "\"waits\"") refl, each-open-free (session + 1) rests)

open-free : (rests : List Rest) → IsFree (rests_json rests)
open-free rests = items-free open_json (opens_by open_of 0 rests) (each-open-free 0 rests)

all-tables-free : (tables : List Table) (left : List (List (Value × List Value))) → IsFree (tables_json tables left)
all-tables-free tables left = simp (list_any-append, tables-free left 0 tables)

left-free : (by : ClassKind) (tables : List Table) (shows : Shown) → IsFree (left_part by tables shows)
left-free Shows tables shows = simp (list_any-append, label-free the.FinalRows, label-free the.Open, all-tables-free tables shows.left, open-free shows.rests)
left-free Answers tables shows = simp (list_any-append, label-free the.FinalRows, all-tables-free tables shows.left)
left-free Outcomes tables shows = refl

shows-free : (p : Page) (shows : Shown) → IsFree (shows_json p shows)
shows-free p shows =
    simp (list_any-append, label-free the.Transcripts, array-free (lines_json p.steps) (lines-free p.steps) shows.told, left-free p.by p.tables shows)

seen-free : (steps : List (List ℕ)) (k : ℕ) (look : Look) → IsFree (seen_json steps k look)
seen-free steps k look = lines-free steps (get_or look.seen k [])

range-free : (run : RankRun) → IsFree (range_json run)
range-free run = simp (list_any-append, decimal-free run.first, decimal-free (run.end - 1))

ranks-free : (p : Page) (k : ℕ) → IsFree (ranks_part p k)
ranks-free p k = one-free p.with_ranks _ [] (array-free range_json range-free (get_or p.ranks k [])) refl

class-free : (p : Page) (k : ℕ) (row : ClassRow) → IsFree (class_json p k row)
class-free p k row =
    let seen = label the.QueryRows ++ array_json (seen_json p.steps k) p.looks in
    let parts = head_json p row ++ shows_json p row.shows in
    let seen-free' : IsFree seen =
    both (label the.QueryRows) (array_json (seen_json p.steps k) p.looks) (label-free the.QueryRows) (array-free (seen_json p.steps k) (seen-free p.steps k) p.looks) in
    both (parts ++ seen ++ ranks_part p k) (codes "}")
    (both (parts ++ seen) (ranks_part p k)
    (both parts seen (both (head_json p row) (shows_json p row.shows) (head-free p row) (shows-free p row.shows)) seen-free') (ranks-free p k)) refl

classes-free : (p : Page) (k : ℕ) (rows : List ClassRow) → IsFree (classes_from p k rows)
classes-free p k [] = refl
classes-free p k (row ∷ rows) =
    both (class_at p k row) (classes_from p (k + 1) rows)
    (both (before_item (codes ",") k) (class_json p k row) (before-free k) (class-free p k row)) (classes-free p (k + 1) rows)

part-free : (p : Page) → IsFree (classes_part p)
part-free p = one-free p.is_brief [] _ refl (both (classes_from p 0 p.rows) (codes "]") (classes-free p 0 p.rows) refl)

-- ---- the whole

by-free : (by : ClassKind) → IsFree (by_json by)
by-free Shows = refl
by-free Answers = refl
by-free Outcomes = refl

look-free : (look : Look) → IsFree (look_json look)
look-free look = string-free look.text

missing-free : (m : Option Missing) → IsFree (missing_json m)
missing-free None = refl
missing-free (Some m) = simp (list_any-append, decimal-free m.ranks, decimal-free m.first)

missing-by-free : (by : ClassKind) (m : Option Missing) → IsFree (missing_by by m)
missing-by-free Shows m = refl
missing-by-free Answers m = refl
missing-by-free Outcomes m = missing-free m

sample-free : (rows : List ClassRow) (sample : Option ℕ) → IsFree (sample_json rows sample)
sample-free rows None = refl
sample-free rows (Some seed) = simp (list_any-append, decimal-free seed, decimal-free (seen_once rows))

counts-free : (p : Page) → IsFree (counts_json p)
counts-free p =
    simp (
      list_any-append,
      string-free p.path,
      decimal-free p.orders,
      decimal-free p.totals.all.orders,
      sample-free p.rows p.sample,
      missing-by-free p.by p.missing,
    )

numbers-free : (p : Page) (step_sessions : List ℕ) (statements : List (List ℕ)) → IsFree (numbers_json p step_sessions statements)
numbers-free p step_sessions statements =
    simp (
      list_any-append,
      array-free string_json string-free p.sessions,
      array-free step_json step-free (zip p.steps (zip step_sessions statements)),
    )

idle-free : (level : Option Level) (lines : List ℕ) → IsFree (idle_json level lines)
idle-free None lines = array-free decimal decimal-free lines
idle-free (Some level) lines = refl

levels-part-free : (p : Page) → IsFree (levels_part p)
levels-part-free p =
    both (levels_json p.level p.other_lines) (idle_json p.level p.other_lines) (levels-free p.level p.other_lines) (idle-free p.level p.other_lines)

asked-free : (p : Page) → IsFree (asked_json p)
asked-free p =
    simp (list_any-append, label-free the.Expectations, label-free the.Queries, array-free (expected_json p.rows) (expected-free p.rows) p.expectations, array-free look_json look-free p.looks)

grouped-free : (p : Page) → IsFree (grouped_json p)
grouped-free p =
    both ((codes ",\"by\":" ++ by_json p.by) ++ (codes ",\"totals\":" ++ totals_json p.by p.all_orders p.totals)) (asked_json p)
    (simp (list_any-append, by-free p.by, totals-free p.by p.all_orders p.totals)) (asked-free p)

pub json-free : (p : Page) (step_sessions : List ℕ) (statements : List (List ℕ)) → IsFree (classes_json p step_sessions statements)
json-free p step_sessions statements =
    let counts = counts_json p in
    let numbers = numbers_json p step_sessions statements in
    both (counts ++ numbers ++ levels_part p ++ grouped_json p ++ classes_part p) (codes "}\n")
    (both (counts ++ numbers ++ levels_part p ++ grouped_json p) (classes_part p)
    (both (counts ++ numbers ++ levels_part p) (grouped_json p)
    (both (counts ++ numbers) (levels_part p) (both counts numbers (counts-free p) (numbers-free p step_sessions statements)) (levels-part-free p))
    (grouped-free p)) (part-free p)) refl
