-- The laws of classes.
use Rattle.std.specs.Prelude.{◌≡◌, ◌≢◌, ◌↔◌, ℕ, ◌<◌, Bool, true, List, [], map, Some}
use Rattle.binding_model.specs.declared.tables.Table.{Table}
use Rattle.bound_specs.specs.Spec.{Spec, line_of, ranks}
use Rattle.lock_queues.specs.Locks.{waits_now}
use Rattle.lock_queues.specs.Reasons.{Among}
use Rattle.machine_model.specs.World.{World, session_at}
use Rattle.machine_model.specs.Typed.{RowsFit}
use Rattle.line_moments.specs.Left.{left_in, LeaveSame}
use Rattle.events.specs.declared.event.Event.{Event}
use Rattle.order_classes.specs.declared.shows.Shows.{Shows}
use Rattle.order_classes.specs.Shows.{seen, shows_in}
use Rattle.order_classes.specs.Letters.{answers_of, answers_at, session_orders, IsOrder, is_through, serial_line, IsSerialRank, LetterR}
use Rattle.order_classes.specs.Letters.{is_wait, is_deadlock, is_other_error, is_unsent, letter_w, letter_d, letter_e, letter_n, letter_s}

-- of worlds whose rows fit the tables the same is seen exactly where they leave the same
abbrev pub LeftIsSeen : Type 0
LeftIsSeen =
    (tables : List Table) (v w : World) → RowsFit tables v.rows → RowsFit tables w.rows
    → (map seen (left_in tables v) ≡ map seen (left_in tables w)) ↔ LeaveSame (left_in tables v) (left_in tables w)

-- each order of the sessions, each whole, is the line of a rank: R compares with ranks of the spec
abbrev pub SerialOrdersAreRanks : Type 0
SerialOrdersAreRanks =
    (spec : Spec) → spec.lines ≡ [] → (order : List ℕ) → Among order (session_orders spec.sessions)
    → (r : ℕ) × (r < ranks spec) × (line_of spec r ≡ serial_line spec order)

-- the orders of sessions are all lists that have each session once
abbrev pub SessionOrdersAreAll : Type 0
SessionOrdersAreAll = (sessions : ℕ) (order : List ℕ) → Among order (session_orders sessions) ↔ IsOrder sessions order

-- R is told exactly of what every session is through with and no rank answers that runs the sessions one behind the other, each whole
abbrev pub LetterRIsExact : Type 0
LetterRIsExact =
    (tables : List Table) (spec : Spec) (s : Shows) → spec.lines ≡ []
    → LetterR tables spec s ↔ ((is_through s ≡ true) × ((r : ℕ) → r < ranks spec → IsSerialRank spec r → answers_at tables spec r ≢ Some (answers_of s)))

-- ---- letters

-- S is told exactly where a session still waits in the world behind the line
abbrev pub LetterSIsExact : Type 0
LetterSIsExact =
    (tables : List Table) (sessions : ℕ) (w : World)
    → (letter_s (shows_in tables sessions w) ≡ true) ↔ ((i : ℕ) × (i < sessions) × (waits_now w.waits i ≡ true))

-- one of so many sessions is told such a thing
abbrev pub IsTold : (Event → Bool) → ℕ → World → Type 0
IsTold test sessions w = (i : ℕ) × (i < sessions) × (e : Event) × Among e (session_at w i).transcript × (test e ≡ true)

-- W, D, E and N are told exactly where a session is told a wait, a deadlock, another error of its own, or that a step is not sent
abbrev pub LettersAreTold : Type 0
LettersAreTold =
    (tables : List Table) (sessions : ℕ) (w : World)
    → ((letter_w (shows_in tables sessions w) ≡ true) ↔ IsTold is_wait sessions w)
    × ((letter_d (shows_in tables sessions w) ≡ true) ↔ IsTold is_deadlock sessions w)
    × ((letter_e (shows_in tables sessions w) ≡ true) ↔ IsTold is_other_error sessions w)
    × ((letter_n (shows_in tables sessions w) ≡ true) ↔ IsTold is_unsent sessions w)
