-- No line of a page of up to four sessions is wider than 80.
use Rattle.std.proofs.Common.{◌≡◌, ℕ, zero, suc, ◌+◌, ◌-◌, ◌<◌, ◌≤◌, Bool, true, false, cond, List}
use Rattle.std.proofs.Common.{[], ◌∷◌, ◌++◌, length, map, get_or, flat_map, Option, Some, None, refl, ap, ◌∙◌, arith}
use Rattle.std.proofs.Common.{eq-eqb}
use Rattle.std.proofs.lemmas.Bool.{or_left, or_right}
use Rattle.std.proofs.lemmas.List.{length-append, length-map, length-replicate}
use Rattle.std.proofs.lemmas.List.Elements.{All-from_recursion}
use Rattle.std.specs.Prelude.{codes, ◌==◌, All}
use Rattle.std.specs.List.{AllByRecursion, list_any}
use Rattle.line_moments.specs.declared.moment.Manner.{Manner}
use Rattle.line_moments.specs.declared.moment.Manner.TheVariants.{IsSent, IsResumed, IsNotSent}
use Rattle.line_moments.specs.declared.moment.Moment.{Moment}
use Rattle.line_moments.specs.declared.shown.Left.{Left}
use Rattle.line_moments.specs.declared.shown.Standing.{Standing}
use Rattle.line_moments.specs.declared.shown.Standing.TheVariants.{HasEnded, IsOpen, HasFailed, StillWaits}
use Rattle.shown_texts.specs.Characters.{blanks, padded, shown_text}
use Rattle.shown_texts.specs.Breaking.{broken}
use Rattle.shown_texts.specs.Lanes.{begun_rail, cell, cell_text, left_by, row_text, rows, step_at, width}
use Rattle.shown_texts.specs.Orders.{comes_in, is_of, is_step, order_text, width_of, widest_from}
use Rattle.shown_texts.specs.Pages.{Page, all_lines, column_width, frame, hanging_lines, head_row}
use Rattle.shown_texts.specs.Levels.{level_text}
use Rattle.shown_texts.specs.Pages.{heads, key_lines, key_text, lanes_part, left_lines, left_names, level_part}
use Rattle.shown_texts.specs.Pages.{legend, legend_from, legend_item, legend_line, meaning_if, or_nothing, part}
use Rattle.shown_texts.specs.Pages.{plain_lines, rest_part, row_lines, shown_shortened, standing_from}
use Rattle.shown_texts.specs.Pages.{standing_lines, standing_text, stands, step_room, table_head}
use Rattle.shown_texts.specs.Words.{values_text}
use Rattle.shown_texts.specs.Pages.{table_lines, title, top_lines, waiting_from, waiting_lines, waiting_text}
use Rattle.shown_texts.specs.Laws.{IsNarrow, IsSmall, IsWithin}
use Rattle.shown_texts.specs.declared.frame.Frame.{Frame}
use Rattle.shown_texts.specs.declared.lane.Cell.{Cell}
use Rattle.shown_texts.specs.declared.lane.LaneRow.{LaneRow}
use Rattle.shown_texts.proofs.FittingLemmas.{broken-within}
use Rattle.shown_texts.proofs.ListLemmas.{all-append, all-flat, all-map, all-weaken}
use Rattle.shown_texts.proofs.SlimLemmas.{HasLeft, IsRow, IsSlim, rows-slim}
use Rattle.shown_texts.proofs.TrimmedLemmas.{trimmed-le}
use Rattle.shown_texts.proofs.WidthLemmas.{IsUpTo, cut-fit, shortened-fit, shortened-long, widest-le}

abbrev AreNarrow : List (List ℕ) → Type 0
AreNarrow lines = AllByRecursion IsNarrow lines

narrow : (line : List ℕ) → length line ≤ 80 → IsNarrow line
narrow line le = let a = trimmed-le line in omega (arith, a, le)

broken-narrow : (front margin : ℕ) (text : List ℕ) → front ≤ 80 → margin < 80 → AreNarrow (broken 80 front margin text)
broken-narrow front margin text le lt =
    all-weaken (IsWithin 80) IsNarrow (λ l within. within.1) (broken 80 front margin text) (broken-within 80 front margin text le lt)

plain-narrow : (text : List ℕ) → AreNarrow (plain_lines text)
plain-narrow text = broken-narrow 0 0 text (omega arith) (omega arith)

hanging-narrow : (text : List ℕ) → AreNarrow (hanging_lines text)
hanging-narrow text = broken-narrow 0 2 text (omega arith) (omega arith)

-- ---- the width of a row

-- so many columns
abbrev total : ℕ → ℕ → ℕ
total zero column = 0
total (suc n) column = column + total n column

padded-long : (n : ℕ) (text : List ℕ) → length text ≤ n → length (padded n text) ≡ n
padded-long n text le =
    let a = length-append text (blanks (n - length text)) in let b = length-replicate {A = ℕ} (n - length text) 32 in omega (arith, a, b, le)

cells-long : (f : Frame) (cells : List Cell) → AllByRecursion (IsSlim f) cells → length (flat_map (cell_text f) cells) ≡ total (length cells) f.column
cells-long f [] are = refl
cells-long f (c ∷ cs) are =
    let slim = are.0 in
    let a = length-append (cell_text f c) (flat_map (cell_text f) cs) in
    let b = padded-long f.column (c.rail ∷ 32 ∷ c.text) (omega (arith, slim)) in
    let h = cells-long f cs are.1 in
    omega (arith, a, b, h)

row-long : (f : Frame) (n : ℕ) (row : LaneRow) → IsRow f n row → length (row_text f row) ≡ f.left + 1 + total n f.column
row-long f n row is =
    let left = is.0 in
    let count = is.2 in
    let a = length-append (padded f.left row.left) (codes " " ++ flat_map (cell_text f) row.cells) in
    let b = padded-long f.left row.left left in
    let c = cells-long f row.cells is.1 in
    let d : total (length row.cells) f.column ≡ total n f.column = ap (λ (m : ℕ). total m f.column) count in
    omega (arith, a, b, c, d)

-- the lanes have room beside each other
room : (left n : ℕ) → 0 < n → n ≤ 4 → left ≤ step_room n → left + 1 + total n (column_width left n) ≤ 80
room left zero some few le = absurd (omega (arith, some))
room left (suc zero) some few le = omega (arith, le)
room left (suc (suc zero)) some few le = omega (arith, le)
room left (suc (suc (suc zero))) some few le = omega (arith, le)
room left (suc (suc (suc (suc zero)))) some few le = omega (arith, le)
room left (suc (suc (suc (suc (suc n))))) some few le = absurd (omega (arith, few))

-- ---- what stands at the left

name-within : (ms : List Moment) (n : ℕ) (names : List (List ℕ)) (k : ℕ) → comes_in ms (n + k) ≡ true → length (get_or names k []) ≤ widest_from ms n names
name-within ms n [] k comes = omega arith
name-within ms n (name ∷ names) zero comes =
    let a : width_of ms n name ≡ length name = ap (λ (b : Bool). cond b (length name) 0) (ap (comes_in ms) (omega arith) ∙ comes) in omega (arith, a)
name-within ms n (name ∷ names) (suc k) comes =
    let a = name-within ms (n + 1) names k (ap (comes_in ms) (omega arith) ∙ comes) in omega (arith, a)

own-step : (k : ℕ) (m : Moment) → m.step ≡ Some k → is_of k m ≡ true
own-step k m e = ap (is_step k) e ∙ eq-eqb k k refl

each-comes : (all ms : List Moment) → ((k : ℕ) → list_any (is_of k) ms ≡ true → comes_in all k ≡ true)
    → AllByRecursion (λ (m : Moment). (k : ℕ) → m.step ≡ Some k → comes_in all k ≡ true) ms
each-comes all [] sub = tt
each-comes all (m ∷ ms) sub = (
  λ k e. sub k (or_left (is_of k m) (list_any (is_of k) ms) (own-step k m e)),
  each-comes all ms (λ k e. sub k (or_right (is_of k m) (list_any (is_of k) ms) e)),
)

step-within : (most : ℕ) (ms : List Moment) (names : List (List ℕ)) (step : Option ℕ) → widest_from ms 0 names ≤ most
    → ((k : ℕ) → step ≡ Some k → comes_in ms k ≡ true) → length (step_at names step) ≤ most
step-within most ms names None le comes = omega arith
step-within most ms names (Some k) le comes =
    let a = name-within ms 0 names k (ap (comes_in ms) (omega arith) ∙ comes k refl) in omega (arith, a, le)

left-within : (most : ℕ) (ms : List Moment) (names : List (List ℕ)) (manner : Manner) (step : Option ℕ) → widest_from ms 0 names ≤ most
    → ((k : ℕ) → step ≡ Some k → comes_in ms k ≡ true) → length (left_by names manner step) ≤ most
left-within most ms names IsSent step le comes = step-within most ms names step le comes
left-within most ms names IsResumed step le comes = omega arith
left-within most ms names IsNotSent step le comes = step-within most ms names step le comes

-- ---- the parts

part-narrow : (lines : List (List ℕ)) → AreNarrow lines → AreNarrow (part lines)
part-narrow [] are = tt
part-narrow (l ∷ ls) are = (omega arith, are)

waiting-narrow : (f : Frame) (name : List ℕ) (s : Standing) → AreNarrow (waiting_lines f name s)
waiting-narrow f name HasEnded = tt
waiting-narrow f name IsOpen = tt
waiting-narrow f name HasFailed = tt
waiting-narrow f name (StillWaits want) = hanging-narrow (waiting_text f name want)

all-waiting : (f : Frame) (n : ℕ) (ss : List Standing) → AreNarrow (waiting_from f n ss)
all-waiting f n [] = tt
all-waiting f n (s ∷ ss) =
    all-append IsNarrow (waiting_lines f (get_or f.whole n []) s) (waiting_from f (n + 1) ss)
    (waiting-narrow f (get_or f.whole n []) s) (all-waiting f (n + 1) ss)

standing-narrow : (name text : List ℕ) → AreNarrow (standing_lines name text)
standing-narrow name [] = tt
standing-narrow name (c ∷ cs) = hanging-narrow (name ++ c ∷ cs)

all-standing : (f : Frame) (n : ℕ) (ss : List Standing) → AreNarrow (standing_from f n ss)
all-standing f n [] = tt
all-standing f n (s ∷ ss) =
    all-append IsNarrow (standing_lines (get_or f.whole n []) (standing_text s)) (standing_from f (n + 1) ss)
    (standing-narrow (get_or f.whole n []) (standing_text s)) (all-standing f (n + 1) ss)

nothing-narrow : (lines : List (List ℕ)) → AreNarrow lines → AreNarrow (or_nothing lines)
nothing-narrow [] are = (narrow (codes "  nothing") (omega arith), tt)
nothing-narrow (l ∷ ls) are = are

table-narrow : (left : Left) → AreNarrow (table_lines left)
table-narrow left =
    all-append IsNarrow (table_head left.table.name) (or_nothing (flat_map row_lines left.rows))
    (hanging-narrow (codes "left in " ++ shown_text left.table.name))
    (nothing-narrow (flat_map row_lines left.rows)
    (all-flat IsNarrow row_lines (λ row. broken-narrow 2 4 (shown_text (values_text row.1)) (omega arith) (omega arith)) left.rows))

meaning-long : (rail : ℕ) (meaning : List ℕ) (rs : List LaneRow) → length (meaning_if rail meaning rs) ≤ length meaning
meaning-long rail meaning rs = by (stands rail rs)
  where
    by : (b : Bool) → length (cond b meaning []) ≤ length meaning
    by true = omega arith
    by false = omega arith

key-long : (rs : List LaneRow) → length (key_text rs) ≤ 80
key-long rs =
    let x = meaning_if 124 (codes "| in a transaction   ") rs in
    let y = meaning_if 58 (codes ": waits   ") rs in
    let z = meaning_if 33 (codes "! failed, up to the end of its block") rs in
    let a : length x ≤ 21 = meaning-long 124 (codes "| in a transaction   ") rs in
    let b : length y ≤ 10 = meaning-long 58 (codes ": waits   ") rs in
    let c : length z ≤ 36 = meaning-long 33 (codes "! failed, up to the end of its block") rs in
    let d = length-append x (y ++ z) in
    let e = length-append y z in
    omega (arith, a, b, c, d, e)

key-narrow : (text : List ℕ) → length text ≤ 80 → AreNarrow (key_lines text)
key-narrow [] le = tt
key-narrow (c ∷ cs) le = (narrow (c ∷ cs) le, tt)

item-narrow : (most : ℕ) (name statements : List ℕ) (b : Bool) → AreNarrow (legend_item most name statements b)
item-narrow most name statements true = (
  narrow (legend_line most name statements)
      (cut-fit 80 (padded most name ++ (codes "  " ++ shown_text statements)) (omega arith)),
  tt,
)
item-narrow most name statements false = tt

legend-narrow : (statements : List (List ℕ)) (ms : List Moment) (most k : ℕ) (names : List (List ℕ)) → AreNarrow (legend_from statements ms most k names)
legend-narrow statements ms most k [] = tt
legend-narrow statements ms most k (name ∷ names) =
    all-append IsNarrow (legend_item most name (get_or statements k []) (comes_in ms k)) (legend_from statements ms most (k + 1) names)
    (item-narrow most name (get_or statements k []) (comes_in ms k)) (legend-narrow statements ms most (k + 1) names)

-- ---- the lanes of a small page

rows-narrow : (f : Frame) (n : ℕ) → f.left + 1 + total n f.column ≤ 80 → (rs : List LaneRow) → AllByRecursion (IsRow f n) rs
    → AreNarrow (map (row_text f) rs)
rows-narrow f n le rs are =
    all-map IsNarrow (row_text f) rs
    (all-weaken (IsRow f n) (λ row. IsNarrow (row_text f row)) (λ row is. let a = row-long f n row is in narrow (row_text f row) (omega (arith, a, le))) rs are)

head-slim : (f : Frame) (n : ℕ) → 18 ≤ f.column → length f.whole ≡ n → n ≤ 4 → IsRow f n (head_row f)
head-slim f n wide long few =
    let fit = shortened-fit (width f) f.whole (omega (arith, wide)) (omega (arith, long, few)) in
    let a = length-map (heads f) (cell 32) in
    let b = shortened-long (width f) f.whole in (
      omega arith,
      all-map (IsSlim f) (cell 32) (heads f)
          (all-weaken (IsUpTo (width f)) (λ l. IsSlim f (cell 32 l)) (λ l le. omega (arith, le, wide)) (heads f) fit),
      omega (arith, a, b, long),
    )

wide-enough : (left n : ℕ) → 18 ≤ column_width left n
wide-enough left n = omega arith

room-of-steps : (n : ℕ) → (7 ≤ step_room n)
room-of-steps n = by (Rattle.std.specs.Prelude.nat_le n 3)
  where
    by : (b : Bool) → 7 ≤ cond b 12 7
    by true = omega arith
    by false = omega arith

module _ (p : Page) (small : IsSmall p) where
  left-le : (frame p).left ≤ step_room (length p.sessions)
  left-le =
      let some = room-of-steps (length p.sessions) in
      let shown_long = length-map p.steps shown_text in
      let steps = small.steps in
      let fit = shortened-fit (step_room (length p.sessions)) (map shown_text p.steps) (omega (arith, some)) (omega (arith, shown_long, steps)) in
      let a = widest-le (step_room (length p.sessions)) p.shown.moments 0 (left_names (length p.sessions) p.steps) fit in
      omega (arith, a, some)

  have-left : AllByRecursion (HasLeft (frame p)) p.shown.moments
  have-left =
      all-weaken (λ (m : Moment). (k : ℕ) → m.step ≡ Some k → comes_in p.shown.moments k ≡ true) (HasLeft (frame p))
      (λ m comes. left-within (frame p).left p.shown.moments (frame p).steps m.manner m.step (omega arith) comes) p.shown.moments
      (each-comes p.shown.moments p.shown.moments (λ k e. e))

  lanes-narrow : AreNarrow (map (row_text (frame p)) (head_row (frame p) ∷ rows (frame p) p.steps p.shown))
  lanes-narrow =
      let wide = wide-enough (frame p).left (length p.sessions) in
      let whole_long = length-map p.sessions shown_text in
      let few = small.few in
      let lanes = small.lanes in
      let rails_long = length-map p.shown.begun begun_rail in
      rows-narrow (frame p) (length p.sessions) (room (frame p).left (length p.sessions) small.some small.few left-le)
      (head_row (frame p) ∷ rows (frame p) p.steps p.shown) (
        head-slim (frame p) (length p.sessions) wide (omega (arith, whole_long)) few,
        rows-slim (frame p) wide p.steps (length p.sessions) (map begun_rail p.shown.begun) p.shown.moments (omega (arith, rails_long, lanes)) have-left,
      )

  lines-narrow : AreNarrow (all_lines p)
  lines-narrow =
      let f = frame p in
      let rs = rows (frame p) p.steps p.shown in
      all-append IsNarrow (top_lines f p) (lanes_part p f rs ++ rest_part p f rs)
      (all-append IsNarrow (plain_lines (title f p)) (level_part p ++ plain_lines (order_text p.steps p.shown.moments))
      (plain-narrow (title f p))
      (all-append IsNarrow (level_part p) (plain_lines (order_text p.steps p.shown.moments))
      (all-flat IsNarrow plain_lines plain-narrow (level_text p.level p.other_lines)) (plain-narrow (order_text p.steps p.shown.moments))))
      (all-append IsNarrow (lanes_part p f rs) (rest_part p f rs)
      (all-append IsNarrow (part (map (row_text f) (head_row f ∷ rs))) (part (waiting_from f 0 p.shown.standings))
      (part-narrow (map (row_text f) (head_row f ∷ rs)) lanes-narrow) (part-narrow (waiting_from f 0 p.shown.standings) (all-waiting f 0 p.shown.standings)))
      (all-append IsNarrow (part (left_lines f p.shown)) (part (key_lines (key_text rs)) ++ part (legend p))
      (part-narrow (left_lines f p.shown)
      (all-append IsNarrow (flat_map table_lines p.shown.left) (standing_from f 0 p.shown.standings) (all-flat IsNarrow table_lines table-narrow p.shown.left)
      (all-standing f 0 p.shown.standings)))
      (all-append IsNarrow (part (key_lines (key_text rs))) (part (legend p)) (part-narrow (key_lines (key_text rs)) (key-narrow (key_text rs) (key-long rs)))
      (part-narrow (legend p)
      (legend-narrow p.statements p.shown.moments (widest_from p.shown.moments 0 (shown_shortened 24 p.steps)) 0 (shown_shortened 24 p.steps))))))

  pub page-narrow : All IsNarrow (all_lines p)
  page-narrow = All-from_recursion IsNarrow (all_lines p) lines-narrow
