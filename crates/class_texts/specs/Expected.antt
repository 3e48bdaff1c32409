-- What is expected of orders: that a SELECT sees one row of what they leave, with these values.
use Rattle.std.specs.Prelude.{ℕ, ◌+◌, ◌==◌, Bool, true, false, ◌&&◌, cond, List, [], ◌∷◌, ◌++◌, length, get_or, codes, decimal, flat_map, Option, Some, None}
use Rattle.std.specs.List.{list_all}
use Rattle.std.specs.Ordering.{eq_by_cmp}
use Rattle.lock_modes.specs.Value.{value_cmp}
use Rattle.lock_modes.specs.declared.value.Value.{Value}
use Rattle.events.specs.declared.event.Event.{Event}
use Rattle.events.specs.declared.event.Event.TheVariants.{Row, Rows}
use Rattle.order_classes.specs.declared.rows.ClassRow.{ClassRow}
use Rattle.shown_texts.specs.Characters.{shown_text}
use Rattle.class_texts.specs.Counted.{counted, number_text}
use Rattle.class_texts.specs.Orders.{order_text}
use Rattle.class_texts.specs.Beneath.{row_text, rows_of, unless_failed}

-- a SELECT as it was given, the values of the row, and what the SELECT sees, class by class in the order of the rows
pub record Expectation : Type 0 where
  pub text : List ℕ
  pub values : List Value
  pub seen : List (List Event)

-- ---- of which classes it holds

abbrev pub same_values : List Value → List Value → Bool
same_values [] [] = true
same_values [] (w ∷ ws) = false
same_values (v ∷ vs) [] = false
same_values (v ∷ vs) (w ∷ ws) = eq_by_cmp value_cmp v w && same_values vs ws

abbrev pub is_row : List Value → Event → Bool
is_row values (Row row) = same_values values row
is_row values event = false

abbrev pub is_one : Event → Bool
is_one (Rows n) = n == 1
is_one event = false

-- one row is seen, with these values
abbrev pub meets : List Value → List Event → Bool
meets values [] = false
meets values (a ∷ []) = false
meets values (a ∷ b ∷ []) = is_row values a && is_one b
meets values (a ∷ b ∷ c ∷ events) = false

-- it holds of all classes
abbrev pub is_met : Expectation → Bool
is_met e = list_all (meets e.values) e.seen

-- it holds of the class at this place
abbrev pub is_met_at : Expectation → ℕ → Bool
is_met_at e k = meets e.values (get_or e.seen k [])

abbrev pub met_at : Expectation → ℕ → ClassRow → ℕ
met_at e k row = cond (is_met_at e k) row.count 0

-- the orders of the classes from this place on of which it holds
abbrev pub met_from : Expectation → ℕ → List ClassRow → ℕ
met_from e k [] = 0
met_from e k (row ∷ rows) = met_at e k row + met_from e (k + 1) rows

abbrev pub missed_at : Expectation → ℕ → ClassRow → ℕ
missed_at e k row = cond (is_met_at e k) 0 row.count

-- those of which it does not
abbrev pub missed_from : Expectation → ℕ → List ClassRow → ℕ
missed_from e k [] = 0
missed_from e k (row ∷ rows) = missed_at e k row + missed_from e (k + 1) rows

-- the first class from this place on of which it does not hold, with what is seen there
abbrev pub first_miss : Expectation → ℕ → List ClassRow → Option (ClassRow × List Event)
first_miss e k [] = None
first_miss e k (row ∷ rows) = cond (is_met_at e k) (first_miss e (k + 1) rows) (Some (row, get_or e.seen k []))

-- ---- in words

abbrev pub value_text : Value → List ℕ
value_text v = row_text (v ∷ [])

abbrev pub behind_value : Value → List ℕ
behind_value v = codes ", " ++ value_text v

abbrev pub values_text : List Value → List ℕ
values_text [] = []
values_text (v ∷ vs) = value_text v ++ flat_map behind_value vs

abbrev pub expected_text : Expectation → List ℕ
expected_text e = codes "expect " ++ (shown_text e.text ++ (codes " = " ++ values_text e.values))

-- so many of so many orders
abbrev pub of_orders : ℕ → ℕ → List ℕ
of_orders n orders = number_text n ++ (codes " of " ++ counted orders (codes "order") (codes "orders"))

-- what is seen in place of the one row
abbrev pub several_rows : ℕ → List Value → List ℕ
several_rows n first = number_text n ++ (codes " rows, first " ++ row_text first)

abbrev pub found_rows : List (List Value) → List ℕ
found_rows [] = codes "no row"
found_rows (row ∷ []) = row_text row
found_rows (row ∷ next ∷ rows) = several_rows (length (row ∷ next ∷ rows)) row

abbrev pub found_text : List (List ℕ) → List Event → List ℕ
found_text steps events = unless_failed steps events (found_rows (rows_of events))

abbrev pub failed_line : ℕ → ℕ → List ℕ
failed_line missed orders = codes "  FAILED in " ++ of_orders missed orders

abbrev pub rank_text : ℕ → List ℕ
rank_text rank = codes "    (rank " ++ (decimal rank ++ codes ")")

abbrev pub first_line : List (List ℕ) → ClassRow → List ℕ
first_line steps row = codes "  first:" ++ (order_text steps row.shows.told row.line.items ++ rank_text row.least)

abbrev pub found_line : List (List ℕ) → List Event → List ℕ
found_line steps events = codes "  found: " ++ found_text steps events

-- a class of which it does not hold, with what is seen there
abbrev pub miss_lines : List (List ℕ) → ClassRow → List Event → List (List ℕ)
miss_lines steps row events = first_line steps row ∷ found_line steps events ∷ []

-- none of a sample of so many orders speaks against it
abbrev pub none_against : ℕ → List ℕ
none_against orders = codes ": no counterexample in " ++ counted orders (codes "order") (codes "orders")

-- it holds of all of so many orders; or none of so many that were drawn speaks against it
abbrev pub holds_text : Bool → ℕ → List ℕ
holds_text true orders = none_against orders
holds_text false orders = codes ": holds in " ++ of_orders orders orders

abbrev pub holds_line : Bool → ℕ → Expectation → List ℕ
holds_line is_sample orders e = expected_text e ++ holds_text is_sample orders

abbrev pub missed_lines : ℕ → List ClassRow → Expectation → List (List ℕ)
missed_lines orders rows e = expected_text e ∷ failed_line (missed_from e 0 rows) orders ∷ []

abbrev pub failed_lines : List (List ℕ) → ℕ → List ClassRow → Expectation → ClassRow → List Event → List (List ℕ)
failed_lines steps orders rows e row events = missed_lines orders rows e ++ miss_lines steps row events

-- it holds of all of so many orders; or it does not, of so many and of this class first
abbrev pub expected_by : List (List ℕ) → Bool → ℕ → List ClassRow → Expectation → Option (ClassRow × List Event) → List (List ℕ)
expected_by steps is_sample orders rows e None = holds_line is_sample orders e ∷ []
expected_by steps is_sample orders rows e (Some miss) = failed_lines steps orders rows e miss.0 miss.1

abbrev pub expected_lines : List (List ℕ) → Bool → ℕ → List ClassRow → Expectation → List (List ℕ)
expected_lines steps is_sample orders rows e = expected_by steps is_sample orders rows e (first_miss e 0 rows)
