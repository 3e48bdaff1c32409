-- Records: what a spec's orders come to, in a text that is kept beside the spec and compared.
use Rattle.std.specs.Prelude.{ℕ, ◌+◌, ◌-◌, nat_lt, false, cond, List, [], ◌∷◌, ◌++◌, length, take, get_or, codes, decimal, flat_map, Option, Some, None}
use Rattle.bound_statements.specs.declared.statement.Level.{Level}
use Rattle.events.specs.declared.event.Event.{Event}
use Rattle.order_classes.specs.declared.rows.ClassRow.{ClassRow}
use Rattle.order_classes.specs.declared.rows.Total.{Total}
use Rattle.order_classes.specs.declared.rows.Totals.{Totals}
use Rattle.order_classes.specs.Letters.{Answers, answers_of}
use Rattle.shown_texts.specs.Characters.{shown_text}
use Rattle.shown_texts.specs.Lanes.{words}
use Rattle.shown_values.specs.Levels.{level_word}
use Rattle.class_texts.specs.Beneath.{tables_from}
use Rattle.class_texts.specs.Counted.{counted, number_text}
use Rattle.class_texts.specs.Letters.{letters_of, sign, total_of}
use Rattle.class_texts.specs.Orders.{order_text}
use Rattle.class_texts.specs.Pages.{Page, lines_bytes}
use Rattle.class_texts.specs.declared.kind.ClassKind.TheVariants.{Shows}
use Rattle.class_texts.specs.declared.letters.Letter.{Letter}
use Rattle.class_texts.specs.declared.records.TheConstants.{MAX_RECORDED}

-- ---- the head

abbrev pub number_or_dash : Option Total → List ℕ
number_or_dash None = codes "-"
number_or_dash (Some t) = number_text t.orders

abbrev pub letter_total : Totals → Letter → List ℕ
letter_total totals letter = sign letter ++ (codes " " ++ number_or_dash (total_of totals letter))

abbrev pub behind_blanks : Totals → Letter → List ℕ
behind_blanks totals letter = codes "  " ++ letter_total totals letter

-- how many orders have each letter
abbrev pub letters_line : Totals → List Letter → List ℕ
letters_line totals [] = []
letters_line totals (letter ∷ letters) = letter_total totals letter ++ flat_map (behind_blanks totals) letters

-- where no level is asked for, by the lines of the file that have one
abbrev pub locking_line : List ℕ → List ℕ
locking_line [] = codes "locking strict two-phase"
locking_line (n ∷ ns) = codes "locking strict two-phase; isolation levels have no effect"

abbrev pub asked_line : Level → List ℕ
asked_line level = codes "level " ++ level_word level

-- how rows are locked
abbrev pub level_line : Option Level → List ℕ → List ℕ
level_line None ns = locking_line ns
level_line (Some level) ns = asked_line level

abbrev pub spec_line : List ℕ → List ℕ
spec_line path = codes "spec " ++ shown_text path

abbrev pub orders_line : ℕ → List ℕ
orders_line orders = codes "orders " ++ number_text orders

abbrev pub totals_line : Totals → List ℕ
totals_line totals = letters_line totals (letters_of Shows false)

abbrev pub head_lines : Page → List (List ℕ)
head_lines p = codes "isofarm record 1" ∷ spec_line p.path ∷ level_line p.level p.other_lines ∷ orders_line p.orders ∷ totals_line p.totals ∷ []

-- ---- results

abbrev pub behind_comma : List (List ℕ) → Event → List ℕ
behind_comma steps event = codes ", " ++ words steps event

-- what a session answers
abbrev pub answers_text : List (List ℕ) → List Event → List ℕ
answers_text steps [] = codes "nothing"
answers_text steps (event ∷ events) = words steps event ++ flat_map (behind_comma steps) events

abbrev pub session_line : List (List ℕ) → List ℕ → List Event → List ℕ
session_line steps name events = codes "  " ++ (shown_text name ++ (codes ": " ++ answers_text steps events))

-- the sessions from this one on
abbrev pub sessions_from : List (List ℕ) → List (List ℕ) → ℕ → List (List Event) → List (List ℕ)
sessions_from sessions steps n [] = []
sessions_from sessions steps n (events ∷ told) = session_line steps (get_or sessions n []) events ∷ sessions_from sessions steps (n + 1) told

abbrev pub answers_lines : Page → Answers → List (List ℕ)
answers_lines p a = sessions_from p.sessions p.steps 0 a.told ++ tables_from (codes "  ") a.left 0 p.tables

abbrev pub result_line : ℕ → ℕ → ClassRow → List ℕ
result_line orders number row =
    codes "result " ++ (decimal number ++ (codes ": " ++ (number_text row.count ++ (codes " of " ++ counted orders (codes "order") (codes "orders")))))

abbrev pub first_line : List (List ℕ) → ClassRow → List ℕ
first_line steps row = codes "  first:" ++ order_text steps row.shows.told row.line.items

-- a result behind an empty line: how many orders have it, the first of them, what sessions answer, and the final rows
abbrev pub result_lines : Page → ℕ → ClassRow → List (List ℕ)
result_lines p number row = [] ∷ result_line p.orders number row ∷ first_line p.steps row ∷ answers_lines p (answers_of row.shows)

abbrev pub results_bytes : Page → ℕ → List ClassRow → List ℕ
results_bytes p k [] = []
results_bytes p k (row ∷ rows) = lines_bytes (result_lines p (k + 1) row) ++ results_bytes p (k + 1) rows

-- that some are left out, if any are
abbrev pub more_lines : ℕ → List (List ℕ)
more_lines count =
    cond (nat_lt MAX_RECORDED count) ([] ∷ (codes "and " ++ (counted (count - MAX_RECORDED) (codes "more result") (codes "more results") ++ codes ", which are left out")) ∷ []) []

-- ---- the whole

abbrev pub record_bytes : Page → List ℕ
record_bytes p = lines_bytes (head_lines p) ++ (results_bytes p 0 (take MAX_RECORDED p.rows) ++ lines_bytes (more_lines (length p.rows)))
