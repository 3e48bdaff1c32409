-- Worked classes, computed.
use Rattle.std.proofs.Common.{◌≡◌, refl, ℕ, Bool, true, false, List, [], ◌∷◌, map, Option, Some, None, option_map}
use Rattle.finite_maps.specs.Map.{get, insert, keep, remove, entries, empty}
use Rattle.statement_evaluation.specs.Effect.{effect}
use Rattle.row_tables.specs.Overlay.{lay}
use Rattle.lock_modes.specs.Rows.{Tuple}
use Rattle.bound_statements.specs.declared.condition.Condition.TheVariants.{Always}
use Rattle.bound_statements.specs.declared.statement.Aggregate.TheVariants.{Sum}
use Rattle.bound_statements.specs.declared.statement.Output.TheVariants.{Columns, Aggregates}
use Rattle.bound_statements.specs.declared.statement.Bound.{Bound}
use Rattle.bound_statements.specs.declared.statement.Bound.TheVariants.{Select, Insert, Delete}
use Rattle.events.specs.declared.event.Event.{Event}
use Rattle.events.specs.declared.event.Event.TheVariants.{Sent, Row as RowEvent, Rows, Updated, Done}
use Rattle.binding_model.specs.Tables.{no_table}
use Rattle.bound_specs.specs.Spec.{Spec}
use Rattle.machine_model.proofs.Worked.{number, step, two_rows, sets, id_is, shares, in_blocks, waits_row, not_waiting_row, ring_row}
use Rattle.line_moments.specs.Left.{tuples_of}
use Rattle.order_classes.specs.declared.shows.Rest.{Rest}
use Rattle.order_classes.specs.declared.shows.Rest.TheVariants.{HasEnded, IsOpen, StillWaits}
use Rattle.order_classes.specs.declared.shows.Shows.{Shows}
use Rattle.order_classes.specs.Shows.{shows_of_line, shows_at}
use Rattle.order_classes.specs.Letters.{Answers, answers_of, answers_at, session_orders, serial_line, letter_w, letter_d, letter_e, letter_n, letter_s}
use Rattle.order_classes.specs.Looks.{look_behind, one_row}

abbrev shown : Spec → ℕ → Option (List (List Event) × List (List Tuple) × List Rest)
shown spec r = option_map (λ (s : Shows). (s.told, map tuples_of s.left, s.rests)) (shows_at (no_table ∷ []) spec r)

-- ---- two blind updates: one outcome, two classes

abbrev blind : Spec
blind = record { sessions = 2; steps = step 0 (sets 1 5) ∷ step 1 (sets 1 6) ∷ []; setups = two_rows ∷ []; lines = []; session_setups = [] }

abbrev leaves : ℕ → List (List Tuple)
leaves v = ((number 1 ∷ number v ∷ []) ∷ (number 2 ∷ number 20 ∷ []) ∷ []) ∷ []

abbrev blind_told : List (List Event)
blind_told = (Sent 0 ∷ Updated 1 ∷ Done ∷ []) ∷ (Sent 1 ∷ Updated 1 ∷ Done ∷ []) ∷ []

blind_0 : shown blind 0 ≡ Some (blind_told, leaves 6, HasEnded ∷ HasEnded ∷ [])
unfolding get insert keep remove entries empty effect lay
blind_0 = refl

blind_1 : shown blind 1 ≡ Some (blind_told, leaves 5, HasEnded ∷ HasEnded ∷ [])
unfolding get insert keep remove entries empty effect lay
blind_1 = refl

-- SELECT sum(v)
abbrev sum : Bound
sum = Select 0 None Always [] (Aggregates (Sum 1 ∷ [])) shares

blind_sum : (look_behind blind sum (0 ∷ 1 ∷ []) ≡ Some (one_row (number 26 ∷ []))) × (look_behind blind sum (1 ∷ 0 ∷ []) ≡ Some (one_row (number 25 ∷ [])))
unfolding get insert keep remove entries empty effect lay
blind_sum = (refl, refl)

-- ---- the lost update without blocks: no wait, and rows that no serial order shows

abbrev reads : Bound
reads = Select 0 (Some (number 1)) Always [] (Columns (1 ∷ [])) shares

abbrev lost : Spec
lost =
    record {
      sessions = 2;
      steps = step 0 reads ∷ step 0 (sets 1 11) ∷ step 1 reads ∷ step 1 (sets 1 12) ∷ [];
      setups = two_rows ∷ [];
      lines = [];
      session_setups = [];
    }

abbrev answers : Option Answers → Option (List (List Event) × List (List Tuple))
answers = option_map (λ (a : Answers). (a.told, map tuples_of a.left))

abbrev saw : ℕ → List Event
saw v = RowEvent (number v ∷ []) ∷ Rows 1 ∷ Updated 1 ∷ []

-- what the orders show that run one session behind the other
lost_serial : map (λ order. answers (option_map answers_of (shows_of_line (no_table ∷ []) lost (serial_line lost order)))) (session_orders 2)
    ≡ Some (saw 10 ∷ saw 11 ∷ [], leaves 12) ∷ Some (saw 12 ∷ saw 10 ∷ [], leaves 11) ∷ []
unfolding get insert keep remove entries empty effect lay
lost_serial = refl

lost_1 : answers (answers_at (no_table ∷ []) lost 1) ≡ Some (saw 10 ∷ saw 10 ∷ [], leaves 12)
unfolding get insert keep remove entries empty effect lay
lost_1 = refl

-- ---- a table without a key: a row at another number is seen alike

abbrev keyless : Spec
keyless =
    record {
      sessions = 2;
      steps = step 0 (Insert 0 None ((number 5 ∷ []) ∷ [])) ∷ step 0 (Delete 0 None (id_is 5)) ∷ step 1 (Insert 0 None ((number 6 ∷ []) ∷ [])) ∷ [];
      setups = [];
      lines = [];
      session_setups = [] ∷ [] ∷ [];
    }

keyless_leaves : option_map (λ (s : Shows). map tuples_of s.left) (shows_at (no_table ∷ []) keyless 1) ≡ Some (((number 6 ∷ []) ∷ []) ∷ [])
unfolding get insert keep remove entries empty effect lay
keyless_leaves = refl

keyless_same : shows_at (no_table ∷ []) keyless 0 ≡ shows_at (no_table ∷ []) keyless 1
unfolding get insert keep remove entries empty effect lay
keyless_same = refl

-- ---- letters

abbrev letters : Spec → ℕ → Option (Bool × Bool × Bool × Bool × Bool)
letters spec r = option_map (λ (s : Shows). (letter_w s, letter_d s, letter_e s, letter_n s, letter_s s)) (shows_at (no_table ∷ []) spec r)

-- the second session's first step waits for the first session, and its second is not sent
waits_row_letters : letters waits_row 2 ≡ Some (true, false, false, true, false)
unfolding get insert keep remove entries empty effect lay
waits_row_letters = refl

-- in two blocks that nobody ends, the second session waits to the end
abbrev stays : Spec
stays = in_blocks 2 (step 0 (sets 1 5) ∷ step 1 (sets 1 6) ∷ [])

stays_letters : letters stays 0 ≡ Some (true, false, false, false, true)
unfolding get insert keep remove entries empty effect lay
stays_letters = refl

stays_rests : option_map (λ (s : Shows). s.rests) (shows_at (no_table ∷ []) stays 0) ≡ Some (IsOpen ∷ StillWaits ∷ [])
unfolding get insert keep remove entries empty effect lay
stays_rests = refl

-- where a lock may not be had at once, that is another error
refused_letters : letters not_waiting_row 1 ≡ Some (false, false, true, false, false)
unfolding get insert keep remove entries empty effect lay
refused_letters = refl

-- a deadlock is none
ring_letters : letters ring_row 1 ≡ Some (true, true, false, false, false)
unfolding get insert keep remove entries empty effect lay
ring_letters = refl

orders_of_3 : session_orders 3 ≡ (0 ∷ 1 ∷ 2 ∷ []) ∷ (0 ∷ 2 ∷ 1 ∷ []) ∷ (1 ∷ 0 ∷ 2 ∷ []) ∷ (1 ∷ 2 ∷ 0 ∷ []) ∷ (2 ∷ 0 ∷ 1 ∷ []) ∷ (2 ∷ 1 ∷ 0 ∷ []) ∷ []
orders_of_3 = refl
