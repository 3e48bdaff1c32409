-- The JSON of what is expected of orders.
use Rattle.std.specs.Prelude.{ℕ, List, ◌++◌, option_map, codes, decimal}
use Rattle.lock_modes.specs.declared.value.Value.{Value}
use Rattle.events.specs.declared.event.Event.{Event}
use Rattle.transcripts.specs.Text.{value_text}
use Rattle.order_classes.specs.declared.rows.ClassRow.{ClassRow}
use Rattle.shown_values.specs.Strings.{array_json, string_json}
use Rattle.shown_values.specs.Words.{number_json}
use Rattle.class_texts.specs.Expected.{Expectation, first_miss, met_from}

-- as a row has it
abbrev pub value_json : Value → List ℕ
value_json value = string_json (value_text value)

abbrev pub least_of : ClassRow × List Event → ℕ
least_of miss = miss.0.least

-- the least rank of which it is not so, or null
abbrev pub first_json : Expectation → List ClassRow → List ℕ
first_json e rows = number_json (option_map least_of (first_miss e 0 rows))

-- the SELECT as it was given, and the values of the row that it is to see
abbrev pub wanted_json : Expectation → List ℕ
wanted_json e = (codes "{\"select\":" ++ string_json e.text) ++ (codes ",\"values\":" ++ array_json value_json e.values)

-- of how many orders it is so, and the first of which it is not
abbrev pub so_json : List ClassRow → Expectation → List ℕ
so_json rows e = (codes ",\"holds_in\":" ++ decimal (met_from e 0 rows)) ++ (codes ",\"first\":" ++ first_json e rows) ++ codes "}"

abbrev pub expected_json : List ClassRow → Expectation → List ℕ
expected_json rows e = wanted_json e ++ so_json rows e
