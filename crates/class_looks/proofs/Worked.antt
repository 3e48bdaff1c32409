-- Looks, expectations and values, by hand.
use Rattle.std.proofs.Common.{◌≡◌, ◌≢◌, refl, ℕ, ℤ, false, List, [], ◌∷◌, ◌++◌, Some, None, Ok, codes, pos, negsuc, map, flat_map, arith}
use Rattle.std.specs.Prelude.{⊤}
use Rattle.std.specs.Fmt.{digits, signed_decimal}
use Rattle.std.specs.Int.{w64}
use Rattle.std.specs.Str.Parse.{ParsesSigned}
use Rattle.lock_modes.specs.Rows.{Tuple}
use Rattle.lock_modes.specs.declared.value.Value.{Value}
use Rattle.lock_modes.specs.declared.value.Value.TheVariants.{Int, Text}
use Rattle.transcripts.specs.Text.{value_text, doubled}
use Rattle.events.specs.declared.event.Event.{Event}
use Rattle.events.specs.declared.event.Event.TheVariants.{Row as RowEvent, Rows, Failed}
use Rattle.events.specs.declared.event.Fault.TheVariants.{OutOfRange}
use Rattle.bound_statements.specs.declared.condition.Condition.{Condition}
use Rattle.bound_statements.specs.declared.condition.Condition.TheVariants.{Always, Compares}
use Rattle.bound_statements.specs.declared.condition.Comparison.TheVariants.{Above}
use Rattle.bound_statements.specs.declared.expression.Operand.TheVariants.{Literal, Column}
use Rattle.bound_statements.specs.declared.statement.Aggregate.TheVariants.{Count, Sum}
use Rattle.bound_statements.specs.declared.statement.Order.TheVariants.{Falls}
use Rattle.bound_statements.specs.declared.statement.Output.TheVariants.{Columns, Aggregates}
use Rattle.bound_statements.specs.declared.statement.Bound.{Bound}
use Rattle.bound_statements.specs.declared.statement.Bound.TheVariants.{Select}
use Rattle.machine_model.proofs.Worked.{number, alone, plus, id_is, shares}
use Rattle.order_classes.specs.Looks.{one_row}
use Rattle.class_looks.specs.Seeing.{told_by, sees}
use Rattle.class_looks.specs.Values.{IsValueOf, IsTextOf, undoubled}
use Rattle.class_looks.proofs.ValueLemmas.{no-number-written, no-value}

-- table 0 has keys, in its first column; table 1 has none, and keeps a row twice
abbrev left : List (List (Value × Tuple))
left =
    ((number 1, number 1 ∷ number 10 ∷ []) ∷ (number 2, number 2 ∷ number 20 ∷ []) ∷ (number 5, number 5 ∷ Int (negsuc 6) ∷ []) ∷ [])
    ∷ ((number 0, number 3 ∷ Text (codes "b") ∷ []) ∷ (number 0, number 4 ∷ Text (codes "a") ∷ []) ∷ (number 0, number 3 ∷ Text (codes "b") ∷ []) ∷ [])
    ∷ []

abbrev told : Bound → List Event
told st = told_by (sees st left)

-- SELECT v FROM t ORDER BY id DESC
column : told (Select 0 None Always (record { column = 0; order = Falls } ∷ []) (Columns (1 ∷ [])) shares)
    ≡ RowEvent (Int (negsuc 6) ∷ []) ∷ RowEvent (number 20 ∷ []) ∷ RowEvent (number 10 ∷ []) ∷ Rows 3 ∷ []
column = refl

-- SELECT sum(v), count(*) FROM t
sum : told (Select 0 None Always [] (Aggregates (Sum 1 ∷ Count ∷ [])) shares) ≡ told_by (one_row (number 23 ∷ number 3 ∷ []))
sum = refl

-- SELECT v FROM t WHERE id = 2, and one with a key that no row has
by_key : told (Select 0 (Some (number 2)) (id_is 2) [] (Columns (1 ∷ [])) shares) ≡ told_by (one_row (number 20 ∷ []))
by_key = refl

no_key : told (Select 0 (Some (number 3)) (id_is 3) [] (Columns (1 ∷ [])) shares) ≡ Rows 0 ∷ []
no_key = refl

-- WHERE v + 9223372036854775807 > 0, which leaves the range at the first row, and so tells no row
abbrev too_large : Condition
too_large = Compares (plus (Column 1) (Literal (number 9223372036854775807))) Above (alone (Literal (number 0)))

faults : told (Select 0 None too_large [] (Columns (0 ∷ [])) shares) ≡ Failed OutOfRange ∷ []
faults = refl

-- of the one row that its key names it does not leave the range
in_range : told (Select 0 (Some (number 5)) too_large [] (Columns (0 ∷ [])) shares) ≡ told_by (one_row (number 5 ∷ []))
in_range = refl

-- a table without a key: SELECT s FROM u ORDER BY s DESC, and SELECT sum(n) FROM u
keyless : told (Select 1 None Always (record { column = 1; order = Falls } ∷ []) (Columns (1 ∷ [])) shares)
    ≡ RowEvent (Text (codes "b") ∷ []) ∷ RowEvent (Text (codes "b") ∷ []) ∷ RowEvent (Text (codes "a") ∷ []) ∷ Rows 3 ∷ []
keyless = refl

keyless_sum : told (Select 1 None Always [] (Aggregates (Sum 0 ∷ [])) shares) ≡ told_by (one_row (number 10 ∷ []))
keyless_sum = refl

-- ---- values as they are written

written : map value_text (Int (negsuc 4) ∷ number 0 ∷ number 7 ∷ Text (codes "it's") ∷ Text [] ∷ Text (codes "'") ∷ [])
    ≡ codes "-5" ∷ codes "0" ∷ codes "7" ∷ codes "'it''s'" ∷ codes "''" ∷ codes "''''" ∷ []
unfolding digits
written = refl

-- a quote that stands once is in no text
quotes : map (undoubled false) (codes "it''s" ∷ codes "it's" ∷ [] ∷ codes "''" ∷ codes "'" ∷ codes "'''" ∷ [])
    ≡ Some (codes "it's") ∷ None ∷ Some [] ∷ Some (codes "'") ∷ None ∷ None ∷ []
quotes = refl

-- ---- words that are no value: what would be read of them is written otherwise

not-written : (word : List ℕ) (n : ℤ) → ParsesSigned {E = ⊤} w64 10 word (Ok n) → signed_decimal n ≢ word → IsTextOf word None → IsValueOf word None
not-written word n parses other text = no-value word (no-number-written ⊤ word n parses other) text

plus_five : IsValueOf (codes "+5") None
unfolding digits
plus_five =
    not-written (codes "+5") (pos 5) (((omega arith, (omega arith, tt)), record { sfits = omega arith }), refl)
    (λ e. (let x : 53 ∷ [] ≡ 43 ∷ 53 ∷ [] = e in cc))
    (λ text utf8 e. (let x : 39 ∷ (flat_map doubled text ++ 39 ∷ []) ≡ 43 ∷ 53 ∷ [] = e in cc))

with_zeros : IsValueOf (codes "007") None
unfolding digits
with_zeros =
    not-written (codes "007") (pos 7) (((omega arith, (omega arith, (omega arith, (omega arith, tt)))), record { sfits = omega arith }), refl)
    (λ e. (let x : 55 ∷ [] ≡ 48 ∷ 48 ∷ 55 ∷ [] = e in cc))
    (λ text utf8 e. (let x : 39 ∷ (flat_map doubled text ++ 39 ∷ []) ≡ 48 ∷ 48 ∷ 55 ∷ [] = e in cc))

minus_zero : IsValueOf (codes "-0") None
unfolding digits
minus_zero =
    not-written (codes "-0") (pos 0) (((omega arith, (omega arith, tt)), record { sfits = omega arith }), refl)
    (λ e. (let x : 48 ∷ [] ≡ 45 ∷ 48 ∷ [] = e in cc))
    (λ text utf8 e. (let x : 39 ∷ (flat_map doubled text ++ 39 ∷ []) ≡ 45 ∷ 48 ∷ [] = e in cc))
