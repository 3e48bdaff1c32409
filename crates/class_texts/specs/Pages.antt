-- The text of classes.
use Rattle.std.specs.Prelude.{ℕ, ◌+◌, ◌-◌, ◌*◌, ◌/◌, ◌%◌, ◌^◌, max, min, nat_lt, Bool, cond, ◌&&◌, ◌||◌, not, ◌==◌}
use Rattle.std.specs.Prelude.{List, [], ◌∷◌, ◌++◌, length, map, get_or, codes, decimal, flat_map, Option, Some, None, is_some}
use Rattle.binding_model.specs.declared.tables.Table.{Table}
use Rattle.bound_statements.specs.declared.statement.Level.{Level}
use Rattle.events.specs.declared.event.Event.{Event}
use Rattle.order_classes.specs.declared.rows.ClassRow.{ClassRow}
use Rattle.order_classes.specs.declared.rows.Total.{Total}
use Rattle.order_classes.specs.declared.rows.Totals.{Totals}
use Rattle.order_classes.specs.declared.shows.Shows.{Shows as Shown}
use Rattle.class_stretches.specs.declared.rank_run.RankRun.{RankRun}
use Rattle.class_stretches.specs.declared.missing.Missing.{Missing}
use Rattle.shown_texts.specs.Characters.{blanks, shown_text}
use Rattle.shown_texts.specs.Levels.{level_text}
use Rattle.shown_texts.specs.Pages.{line_bytes, part}
use Rattle.class_texts.specs.Letters.{letters_of, letters_text, meaning, sign, total_of}
use Rattle.class_texts.specs.Counted.{counted, number_text}
use Rattle.class_texts.specs.Orders.{order_text}
use Rattle.class_texts.specs.Legend.{legend_lines}
use Rattle.class_texts.specs.Beneath.{Look, left_lines, look_line, margin, outcome_beneath, ranks_text}
use Rattle.class_texts.specs.Expected.{Expectation, expected_lines}
use Rattle.class_texts.specs.Intervals.{high_share, low_share, seen_share}
use Rattle.class_texts.specs.declared.kind.ClassKind.{ClassKind}
use Rattle.class_texts.specs.declared.kind.ClassKind.TheVariants.{Shows, Answers, Outcomes}
use Rattle.class_texts.specs.declared.letters.Letter.{Letter}
use Rattle.class_texts.specs.declared.widths.TableWidths.{TableWidths}
use Rattle.class_texts.specs.declared.widths.TotalWidths.{TotalWidths}

-- what a page is made of: the path of the spec and how many orders it has, of all permutations or of those alone that clients can send, or how many were
-- drawn, and by which seed; the names of
-- sessions and of steps, and the declared tables; by what orders are grouped, whether these are not all orders, by which filters, and which are missing; the
-- level that is asked for, if any, and the lines of the file with another one; what is expected; the totals and the classes; and whether the totals are told
-- alone. Of each class what else is told: its ranks, its outcome, its final rows, and what queries see of these
pub record Page : Type 0 where
  pub path : List ℕ
  pub orders : ℕ
  pub all_orders : Bool
  pub sample : Option ℕ
  pub sessions : List (List ℕ)
  pub steps : List (List ℕ)
  pub tables : List Table
  pub by : ClassKind
  pub is_filtered : Bool
  pub filters : List ℕ
  pub missing : Option Missing
  pub level : Option Level
  pub other_lines : List ℕ
  pub expectations : List Expectation
  pub totals : Totals
  pub rows : List ClassRow
  pub is_brief : Bool
  pub with_ranks : Bool
  pub ranks : List (List RankRun)
  pub with_outcomes : Bool
  pub with_left : Bool
  pub looks : List Look

-- one class, and several
abbrev pub class_word : ClassKind → List ℕ
class_word Shows = codes "class"
class_word Answers = codes "result"
class_word Outcomes = codes "class"

abbrev pub classes_word : ClassKind → List ℕ
classes_word Shows = codes "classes"
classes_word Answers = codes "results"
classes_word Outcomes = codes "classes"

-- ---- shares

-- tenths of a per cent, of which a half is rounded up
abbrev pub tenths : ℕ → ℕ → ℕ
tenths whole part = (part * 2000 + whole) / max 1 (whole * 2)

abbrev pub tenths_text : ℕ → List ℕ
tenths_text n = decimal (n / 10) ++ (codes "." ++ (decimal (n % 10) ++ codes "%"))

abbrev pub share_by : ℕ → ℕ → List ℕ
share_by part n = cond ((n == 0) && not (part == 0)) (codes "<0.1%") (tenths_text n)

-- a part of the orders that are told of
abbrev pub share_text : ℕ → ℕ → List ℕ
share_text whole part = share_by part (tenths whole part)

-- a text behind two blanks, and behind more to a width
abbrev pub right : ℕ → List ℕ → List ℕ
right width text = codes "  " ++ (blanks (width - length text) ++ text)

-- as wide as its head and as the widest interval
abbrev pub interval_width : ℕ
interval_width = 12

-- tenths of a per cent without their sign
abbrev pub points_text : ℕ → List ℕ
points_text n = decimal (n / 10) ++ (codes "." ++ decimal (n % 10))

-- the shares between which Wilson's interval lies; it is told of samples of fewer than 2^32 orders
abbrev pub interval_of : ℕ → ℕ → List ℕ
interval_of whole part =
    points_text (low_share whole part (seen_share whole part)) ++ (codes "-" ++ tenths_text (high_share whole part (999 - seen_share whole part)))

abbrev pub interval_text : ℕ → ℕ → List ℕ
interval_text whole part = cond (nat_lt whole (2 ^ 32)) (interval_of whole (min part whole)) (codes "-")

-- the column of intervals, which samples have
abbrev pub interval_column : Bool → List ℕ → List ℕ
interval_column is_sample text = cond is_sample (right interval_width text) []

abbrev pub interval_part : Bool → ℕ → ℕ → List ℕ
interval_part is_sample whole part = interval_column is_sample (interval_text whole part)

-- ---- the head

-- how many orders are told of, where these are not all
abbrev pub asked_text : Bool → ℕ → List ℕ
asked_text is_filtered n = cond is_filtered (number_text n ++ codes " of ") []

-- so many orders, in so many classes
abbrev pub in_classes : ClassKind → ℕ → ℕ → List ℕ
in_classes by orders classes = counted orders (codes "order") (codes "orders") ++ (codes " in " ++ counted classes (class_word by) (classes_word by))

abbrev pub counts_text : Page → List ℕ
counts_text p = asked_text p.is_filtered p.totals.all.orders ++ in_classes p.by p.orders p.totals.all.classes

-- that the orders are drawn
abbrev pub seed_text : ℕ → List ℕ
seed_text seed = codes "sample of all permutations, seed " ++ decimal seed

abbrev pub sample_remark : Option ℕ → List (List ℕ)
sample_remark None = []
sample_remark (Some seed) = seed_text seed ∷ []

-- that all permutations are counted, which is not said of permutation lines
abbrev pub all_remark : Page → List (List ℕ)
all_remark p = cond (p.all_orders && is_some p.totals.not_serial) (codes "all permutations" ∷ []) []

abbrev pub unsent_text : ℕ → List ℕ
unsent_text n = counted n (codes "contains") (codes "contain") ++ codes " a step that is not sent"

-- how many of them no client can send
abbrev pub unsent_remark : Page → List (List ℕ)
unsent_remark p = cond (p.all_orders && nat_lt 0 p.totals.unsent.orders) (unsent_text p.totals.unsent.orders ∷ []) []

abbrev pub filters_remark : List ℕ → List (List ℕ)
filters_remark [] = []
filters_remark (c ∷ cs) = shown_text (c ∷ cs) ∷ []

abbrev pub remarks : Page → List (List ℕ)
remarks p = sample_remark p.sample ++ (all_remark p ++ (unsent_remark p ++ filters_remark p.filters))

abbrev pub behind_semicolon : List ℕ → List ℕ
behind_semicolon remark = codes "; " ++ remark

abbrev pub in_brackets : List (List ℕ) → List ℕ
in_brackets [] = []
in_brackets (remark ∷ remarks) = codes " (" ++ (remark ++ (flat_map behind_semicolon remarks ++ codes ")"))

-- how many orders are missing, and the first of them
abbrev pub missing_text : Option Missing → List ℕ
missing_text None = []
missing_text (Some m) = codes "; " ++ (counted m.ranks (codes "order is missing, rank ") (codes "orders are missing, the first of rank ") ++ decimal m.first)

abbrev pub title : Page → List ℕ
title p = shown_text p.path ++ (codes ": " ++ (counts_text p ++ (in_brackets (remarks p) ++ missing_text p.missing)))

-- what books do not know
abbrev pub books_line : ClassKind → List (List ℕ)
books_line Shows = []
books_line Answers = []
books_line Outcomes = codes "Books have no final rows: S and R are not known." ∷ []

-- how many classes have one order
abbrev pub is_one : ClassRow → ℕ
is_one row = cond (row.count == 1) 1 0

abbrev pub seen_once : List ClassRow → ℕ
seen_once [] = 0
seen_once (row ∷ rows) = is_one row + seen_once rows

-- what a sample says of shares, and of the orders whose classes it has not: they are about as many as have a class of their own in it
abbrev pub unseen_line : ℕ → List ClassRow → List ℕ
unseen_line orders rows =
    codes "Shares have 95% intervals by Wilson. About " ++ (share_text orders (seen_once rows) ++ codes " of such orders are in classes not seen (Good and Turing).")

abbrev pub sample_line : Page → List (List ℕ)
sample_line p = cond (is_some p.sample && nat_lt 0 p.totals.all.orders) (unseen_line p.totals.all.orders p.rows ∷ []) []

abbrev pub head_lines : Page → List (List ℕ)
head_lines p = title p ∷ (level_text p.level p.other_lines ++ (books_line p.by ++ sample_line p))

abbrev pub expectations_lines : Page → List (List ℕ)
expectations_lines p = flat_map (expected_lines p.steps (is_some p.sample) p.totals.all.orders p.rows) p.expectations

-- ---- columns

-- the number behind these
abbrev pub largest : ℕ → List ℕ → ℕ
largest n [] = n
largest n (m ∷ ms) = largest (max n m) ms

-- as wide as its head and as the text of the largest number
abbrev pub number_width : ℕ → ℕ → ℕ
number_width head n = max head (length (number_text n))

abbrev pub share_width : ℕ → ℕ → ℕ
share_width whole part = max (length (share_text whole part)) 5

-- ---- totals

abbrev pub orders_of : Option Total → ℕ
orders_of None = 0
orders_of (Some t) = t.orders

abbrev pub classes_of : Option Total → ℕ
classes_of None = 0
classes_of (Some t) = t.classes

abbrev pub most_orders : Totals → List Letter → ℕ
most_orders totals letters = largest 0 (map (λ l. orders_of (total_of totals l)) letters)

abbrev pub most_classes : Totals → List Letter → ℕ
most_classes totals letters = largest 0 (map (λ l. classes_of (total_of totals l)) letters)

abbrev pub total_widths : ClassKind → Totals → List Letter → TotalWidths
total_widths by totals letters = record {
  orders = number_width 6 (most_orders totals letters);
  share = share_width totals.all.orders (most_orders totals letters);
  classes = number_width (length (classes_word by)) (most_classes totals letters);
}

-- the numbers of a line of the totals, each in its column
abbrev pub total_cells : TotalWidths → List ℕ → List ℕ → List ℕ → List ℕ → List ℕ
total_cells w orders share interval classes = right w.orders orders ++ (right w.share share ++ (interval ++ right w.classes classes))

-- the names of the columns
abbrev pub head_cells : TotalWidths → Bool → ClassKind → List ℕ
head_cells w is_sample by = total_cells w (codes "orders") (codes "share") (interval_column is_sample (codes "95% interval")) (classes_word by)

-- no numbers where the letter is not known
abbrev pub cells_of : TotalWidths → Bool → ℕ → Option Total → List ℕ
cells_of w is_sample whole None = total_cells w (codes "-") (codes "-") (interval_column is_sample (codes "-")) (codes "-")
cells_of w is_sample whole (Some t) =
    total_cells w (number_text t.orders) (share_text whole t.orders) (interval_part is_sample whole t.orders) (number_text t.classes)

-- the letter in front of its numbers
abbrev pub letter_front : Letter → List ℕ
letter_front letter = codes "  " ++ (sign letter ++ codes " ")

-- why R is not known
abbrev pub unknown_text : Bool → List ℕ
unknown_text is_sample = cond is_sample (codes "  anomaly: not known for samples") (codes "  anomaly: not known for permutation lines")

-- what a letter means, behind its numbers
abbrev pub meaning_of : Bool → Letter → Option Total → List ℕ
meaning_of is_sample letter None = unknown_text is_sample
meaning_of is_sample letter (Some t) = codes "  " ++ meaning letter

abbrev pub totals_head : TotalWidths → Bool → ClassKind → List ℕ
totals_head w is_sample by = codes "    " ++ head_cells w is_sample by

abbrev pub total_line : TotalWidths → Bool → Totals → Letter → List ℕ
total_line w is_sample totals letter =
    letter_front letter ++ (cells_of w is_sample totals.all.orders (total_of totals letter) ++ meaning_of is_sample letter (total_of totals letter))

abbrev pub totals_by : TotalWidths → Bool → ClassKind → Totals → List Letter → List (List ℕ)
totals_by w is_sample by totals letters = totals_head w is_sample by ∷ map (total_line w is_sample totals) letters

abbrev pub totals_lines : Page → List (List ℕ)
totals_lines p =
    totals_by (total_widths p.by p.totals (letters_of p.by p.all_orders)) (is_some p.sample) p.by p.totals (letters_of p.by p.all_orders)

-- the head, what is expected, and the totals, with an empty line between
abbrev pub top_lines : Page → List (List ℕ)
top_lines p = head_lines p ++ (part (expectations_lines p) ++ part (totals_lines p))

-- ---- the table

abbrev pub count_of : ClassRow → ℕ
count_of row = row.count

abbrev pub rank_of : ClassRow → ℕ
rank_of row = row.least

abbrev pub most_counted : List ClassRow → ℕ
most_counted rows = largest 0 (map count_of rows)

abbrev pub last_rank : List ClassRow → ℕ
last_rank rows = largest 0 (map rank_of rows)

abbrev pub digits_of : ℕ → ℕ
digits_of n = length (decimal n)

abbrev pub rank_width : ℕ → ℕ
rank_width last = max (digits_of last) 4

abbrev pub table_widths : ClassKind → ℕ → List ClassRow → TableWidths
table_widths by whole rows = record {
  number = max (digits_of (length rows)) (length (class_word by));
  orders = number_width 6 (most_counted rows);
  share = share_width whole (most_counted rows);
  rank = rank_width (last_rank rows);
}

-- what stands in front of an order
abbrev pub share_cells : TableWidths → List ℕ → List ℕ → List ℕ → List ℕ
share_cells w orders share interval = right w.orders orders ++ (right w.share share ++ interval)

abbrev pub cells : TableWidths → List ℕ → List ℕ → List ℕ → List ℕ → List ℕ → List ℕ → List ℕ
cells w number orders share interval letters rank =
    blanks (w.number - length number)
    ++ (number ++ (share_cells w orders share interval ++ (codes "  " ++ (letters ++ (right w.rank rank ++ codes " ")))))

abbrev pub letter_signs : ClassKind → Bool → List ℕ
letter_signs by all = flat_map sign (letters_of by all)

abbrev pub table_head : TableWidths → Bool → ClassKind → Bool → List ℕ
table_head w is_sample by all =
    cells w (class_word by) (codes "orders") (codes "share") (interval_column is_sample (codes "95% interval")) (letter_signs by all) (codes "rank") ++ codes " first order"

abbrev pub row_front : TableWidths → Page → ℕ → ClassRow → List ℕ
row_front w p number row =
    cells w (decimal number) (number_text row.count) (share_text p.totals.all.orders row.count) (interval_part (is_some p.sample) p.totals.all.orders row.count)
    (letters_text p.by p.all_orders row.letters) (decimal row.least)

abbrev pub row_line : TableWidths → Page → ℕ → ClassRow → List ℕ
row_line w p number row = row_front w p number row ++ order_text p.steps row.shows.told row.line.items

-- ---- the whole, in bytes

abbrev pub lines_bytes : List (List ℕ) → List ℕ
lines_bytes lines = flat_map line_bytes lines

abbrev pub ranks_part : Page → ℕ → List ℕ
ranks_part p k = cond p.with_ranks (line_bytes (margin ++ ranks_text (get_or p.ranks k []))) []

abbrev pub outcome_part : Page → List (List Event) → List ℕ
outcome_part p told = cond p.with_outcomes (outcome_beneath p.sessions p.steps told) []

abbrev pub left_part : Page → Shown → List (List ℕ)
left_part p shows = cond p.with_left (left_lines p.by p.tables p.sessions shows) []

abbrev pub looks_part : Page → ℕ → List (List ℕ)
looks_part p k = map (look_line p.steps k) p.looks

-- what is told of the class at this place beneath its order
abbrev pub beneath : Page → ℕ → ClassRow → List ℕ
beneath p k row = ranks_part p k ++ (outcome_part p row.shows.told ++ (lines_bytes (left_part p row.shows) ++ lines_bytes (looks_part p k)))

abbrev pub row_bytes : TableWidths → Page → ℕ → ClassRow → List ℕ
row_bytes w p k row = line_bytes (row_line w p (k + 1) row) ++ beneath p k row

-- the rows from this place on: the class at place k has the number k + 1
abbrev pub rows_bytes : TableWidths → Page → ℕ → List ClassRow → List ℕ
rows_bytes w p k [] = []
rows_bytes w p k (row ∷ rows) = row_bytes w p k row ++ rows_bytes w p (k + 1) rows

abbrev pub head_bytes : TableWidths → Page → List ℕ
head_bytes w p = codes "\n" ++ line_bytes (table_head w (is_some p.sample) p.by p.all_orders)

abbrev pub table_bytes : TableWidths → Page → List ℕ
table_bytes w p = head_bytes w p ++ (rows_bytes w p 0 p.rows ++ lines_bytes (part (legend_lines p.steps p.rows)))

-- there is no table without rows, and none where the totals are told alone
abbrev pub has_no_table : Page → Bool
has_no_table p = p.is_brief || (length p.rows == 0)

abbrev pub table_part : Page → List ℕ
table_part p = cond (has_no_table p) [] (table_bytes (table_widths p.by p.totals.all.orders p.rows) p)

abbrev pub page_bytes : Page → List ℕ
page_bytes p = lines_bytes (top_lines p) ++ table_part p
