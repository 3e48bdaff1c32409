-- The page that shows one order.
use Rattle.std.specs.Prelude.{ℕ, ◌+◌, ◌-◌, ◌/◌, max, nat_le, nat_lt, Bool, cond, ◌==◌}
use Rattle.std.specs.Prelude.{List, [], ◌∷◌, ◌++◌, length, map, get_or, codes, decimal, flat_map, encode_utf8_all, Option}
use Rattle.std.specs.List.{list_any}
use Rattle.bound_statements.specs.declared.statement.Level.{Level}
use Rattle.lock_modes.specs.declared.value.Value.{Value}
use Rattle.lock_queues.specs.declared.reason.Edge.{Edge}
use Rattle.lock_queues.specs.Reasons.{Want}
use Rattle.line_moments.specs.declared.moment.Moment.{Moment}
use Rattle.line_moments.specs.declared.shown.Left.{Left}
use Rattle.line_moments.specs.declared.shown.Shown.{Shown}
use Rattle.line_moments.specs.declared.shown.Standing.{Standing}
use Rattle.line_moments.specs.declared.shown.Standing.TheVariants.{HasEnded, IsOpen, HasFailed, StillWaits}
use Rattle.shown_texts.specs.Characters.{padded, shown_text, trimmed}
use Rattle.shown_texts.specs.Names.{cut, shortened}
use Rattle.shown_texts.specs.Breaking.{broken}
use Rattle.shown_texts.specs.Levels.{level_text}
use Rattle.shown_texts.specs.Words.{reason_text, want_text, values_text}
use Rattle.shown_texts.specs.Lanes.{cell, width, row_text, rows}
use Rattle.shown_texts.specs.Orders.{comes_in, order_text, widest_from}
use Rattle.shown_texts.specs.declared.frame.Frame.{Frame}
use Rattle.shown_texts.specs.declared.lane.Cell.{Cell}
use Rattle.shown_texts.specs.declared.lane.LaneRow.{LaneRow}

-- what a page is made of: the path of the spec, the rank and the number of orders; the names of sessions and of steps, and the statements of each step on one
-- line; the level that is asked for, if any, and the lines of the file with another one; and what is shown of the line
pub record Page : Type 0 where
  pub path : List ℕ
  pub rank : ℕ
  pub orders : ℕ
  pub sessions : List (List ℕ)
  pub steps : List (List ℕ)
  pub statements : List (List ℕ)
  pub level : Option Level
  pub other_lines : List ℕ
  pub shown : Shown

-- ---- how wide its parts are

-- names of steps at the left, and of sessions in reasons, where there are so many sessions
abbrev pub step_room : ℕ → ℕ
step_room count = cond (nat_le count 3) 12 7

abbrev pub name_room : ℕ → ℕ
name_room count = cond (nat_le count 3) 14 9

-- the left is as wide as the widest of these names of steps
abbrev pub left_width : List Moment → List (List ℕ) → ℕ
left_width ms steps = max 3 (widest_from ms 0 steps)

-- behind a blank the lanes share the rest of 80 columns, but have 18 at least
abbrev pub column_width : ℕ → ℕ → ℕ
column_width left count = max 18 ((79 - left) / max 1 count)

abbrev pub table_name : Left → List ℕ
table_name left = shown_text left.table.name

abbrev pub frame_by : ℕ → Shown → List (List ℕ) → List (List ℕ) → Frame
frame_by count shown sessions steps =
    record {
      names = shortened (name_room count) sessions;
      whole = sessions;
      tables = map table_name shown.left;
      steps = steps;
      left = left_width shown.moments steps;
      column = column_width (left_width shown.moments steps) count;
    }

abbrev pub shown_shortened : ℕ → List (List ℕ) → List (List ℕ)
shown_shortened most names = shortened most (map shown_text names)

-- the names of the steps at the left
abbrev pub left_names : ℕ → List (List ℕ) → List (List ℕ)
left_names count steps = shown_shortened (step_room count) steps

abbrev pub frame_with : List (List ℕ) → List (List ℕ) → Shown → Frame
frame_with sessions steps shown = frame_by (length sessions) shown (map shown_text sessions) (left_names (length sessions) steps)

abbrev pub frame : Page → Frame
frame p = frame_with p.sessions p.steps p.shown

-- ---- its parts

-- a line of its own, or several where it is too long
abbrev pub plain_lines : List ℕ → List (List ℕ)
plain_lines text = broken 80 0 0 text

abbrev pub hanging_lines : List ℕ → List (List ℕ)
hanging_lines text = broken 80 0 2 text

abbrev pub wide_text : ℕ → List ℕ
wide_text columns = cond (nat_lt 80 columns) (codes ", " ++ (decimal columns ++ codes " columns wide")) []

-- the names of the sessions above their lanes
abbrev pub heads : Frame → List (List ℕ)
heads f = shortened (width f) f.whole

abbrev pub head_row : Frame → LaneRow
head_row f = record { left = []; cells = map (cell 32) (heads f) }

-- the columns of the lanes with what stands at the left
abbrev pub full_width : Frame → ℕ
full_width f = length (row_text f (head_row f))

abbrev pub rank_text : ℕ → ℕ → List ℕ
rank_text rank orders = codes ": rank " ++ (decimal rank ++ (codes " of " ++ decimal orders))

abbrev pub title : Frame → Page → List ℕ
title f p = shown_text p.path ++ (rank_text p.rank p.orders ++ wide_text (full_width f))

-- what is said of levels
abbrev pub level_part : Page → List (List ℕ)
level_part p = flat_map plain_lines (level_text p.level p.other_lines)

-- the title, and the order beneath it
abbrev pub top_lines : Frame → Page → List (List ℕ)
top_lines f p = plain_lines (title f p) ++ (level_part p ++ plain_lines (order_text p.steps p.shown.moments))

-- a reason behind others
abbrev pub further_reason : List (List ℕ) → Edge → List ℕ
further_reason names edge = codes ", " ++ reason_text names edge

abbrev pub whole_want : Frame → Want → List ℕ
whole_want f want = want_text f.tables want ++ flat_map (further_reason f.whole) want.edges

abbrev pub waiting_text : Frame → List ℕ → Want → List ℕ
waiting_text f name want = name ++ (codes " still waits at the end: " ++ whole_want f want)

-- a session that waits at the end
abbrev pub waiting_lines : Frame → List ℕ → Standing → List (List ℕ)
waiting_lines f name HasEnded = []
waiting_lines f name IsOpen = []
waiting_lines f name HasFailed = []
waiting_lines f name (StillWaits want) = hanging_lines (waiting_text f name want)

-- of the sessions from this one on
abbrev pub waiting_from : Frame → ℕ → List Standing → List (List ℕ)
waiting_from f session [] = []
waiting_from f session (s ∷ ss) = waiting_lines f (get_or f.whole session []) s ++ waiting_from f (session + 1) ss

abbrev pub row_lines : Value × List Value → List (List ℕ)
row_lines row = broken 80 2 4 (shown_text (values_text row.1))

abbrev pub or_nothing : List (List ℕ) → List (List ℕ)
or_nothing [] = codes "  nothing" ∷ []
or_nothing (line ∷ lines) = line ∷ lines

abbrev pub table_head : List ℕ → List (List ℕ)
table_head name = hanging_lines (codes "left in " ++ shown_text name)

-- a table by its name, and the rows that are left in it
abbrev pub left_in : List ℕ → List (Value × List Value) → List (List ℕ)
left_in name rows = table_head name ++ or_nothing (flat_map row_lines rows)

-- a table and its committed rows
abbrev pub table_lines : Left → List (List ℕ)
table_lines left = left_in left.table.name left.rows

-- a session that has not ended
abbrev pub standing_text : Standing → List ℕ
standing_text HasEnded = []
standing_text IsOpen = codes " is in a transaction"
standing_text HasFailed = codes " is in a failed block"
standing_text (StillWaits want) = codes " waits"

abbrev pub standing_lines : List ℕ → List ℕ → List (List ℕ)
standing_lines name [] = []
standing_lines name (c ∷ cs) = hanging_lines (name ++ c ∷ cs)

abbrev pub standing_from : Frame → ℕ → List Standing → List (List ℕ)
standing_from f session [] = []
standing_from f session (s ∷ ss) = standing_lines (get_or f.whole session []) (standing_text s) ++ standing_from f (session + 1) ss

abbrev pub left_lines : Frame → Shown → List (List ℕ)
left_lines f shown = flat_map table_lines shown.left ++ standing_from f 0 shown.standings

abbrev pub is_beside : ℕ → Cell → Bool
is_beside rail c = c.rail == rail

-- the rail stands in a row
abbrev pub has_rail : ℕ → LaneRow → Bool
has_rail rail row = list_any (is_beside rail) row.cells

abbrev pub stands : ℕ → List LaneRow → Bool
stands rail rs = list_any (has_rail rail) rs

-- what a rail means, if it stands in the lanes
abbrev pub meaning_if : ℕ → List ℕ → List LaneRow → List ℕ
meaning_if rail meaning rs = cond (stands rail rs) meaning []

abbrev pub key_text : List LaneRow → List ℕ
key_text rs =
    meaning_if 124 (codes "| in a transaction   ") rs
    ++ (meaning_if 58 (codes ": waits   ") rs ++ meaning_if 33 (codes "! failed, up to the end of its block") rs)

abbrev pub key_lines : List ℕ → List (List ℕ)
key_lines [] = []
key_lines (c ∷ cs) = (c ∷ cs) ∷ []

-- a step and its statements
abbrev pub legend_line : ℕ → List ℕ → List ℕ → List ℕ
legend_line most name statements = cut 80 (padded most name ++ (codes "  " ++ shown_text statements))

abbrev pub legend_item : ℕ → List ℕ → List ℕ → Bool → List (List ℕ)
legend_item most name statements comes = cond comes (legend_line most name statements ∷ []) []

-- of the steps from this one on, which have these names
abbrev pub legend_from : List (List ℕ) → List Moment → ℕ → ℕ → List (List ℕ) → List (List ℕ)
legend_from statements ms most k [] = []
legend_from statements ms most k (name ∷ names) =
    legend_item most name (get_or statements k []) (comes_in ms k) ++ legend_from statements ms most (k + 1) names

abbrev pub legend_by : Page → List (List ℕ) → List (List ℕ)
legend_by p names = legend_from p.statements p.shown.moments (widest_from p.shown.moments 0 names) 0 names

abbrev pub legend : Page → List (List ℕ)
legend p = legend_by p (shown_shortened 24 p.steps)

-- ---- the whole

-- a part stands behind an empty line, if there is one
abbrev pub part : List (List ℕ) → List (List ℕ)
part [] = []
part (line ∷ lines) = [] ∷ line ∷ lines

-- the lanes, and the sessions that wait at the end
abbrev pub lanes_part : Page → Frame → List LaneRow → List (List ℕ)
lanes_part p f rs = part (map (row_text f) (head_row f ∷ rs)) ++ part (waiting_from f 0 p.shown.standings)

-- what is left, what the rails mean, and the steps
abbrev pub rest_part : Page → Frame → List LaneRow → List (List ℕ)
rest_part p f rs = part (left_lines f p.shown) ++ (part (key_lines (key_text rs)) ++ part (legend p))

abbrev pub page_lines : Page → Frame → List LaneRow → List (List ℕ)
page_lines p f rs = top_lines f p ++ (lanes_part p f rs ++ rest_part p f rs)

abbrev pub lines_in : Page → Frame → List (List ℕ)
lines_in p f = page_lines p f (rows f p.steps p.shown)

abbrev pub all_lines : Page → List (List ℕ)
all_lines p = lines_in p (frame p)

-- a line in UTF-8, without the blanks at its end
abbrev pub line_bytes : List ℕ → List ℕ
line_bytes line = encode_utf8_all (trimmed line) ++ codes "\n"

abbrev pub page_bytes : Page → List ℕ
page_bytes p = flat_map line_bytes (all_lines p)
