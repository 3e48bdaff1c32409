-- The laws of histories.
use Rattle.std.specs.Prelude.{◌≡◌, ℕ, List, ◌++◌}
use Rattle.bound_specs.specs.Levels.{AskAlways}
use Rattle.bound_specs.specs.Spec.{Spec, Step, IsBound}
use Rattle.machine_model.specs.Start.{Started, start}
use Rattle.machine_model.specs.Session.{Session, Task}
use Rattle.machine_model.specs.World.{World, send_all}
use Rattle.machine_model.specs.Sound.{Sound}
use Rattle.lock_modes.specs.Rows.{Rows'}
use Rattle.serial_history.specs.Serial.{History, Transaction, Told, IsWhole, KeepsSerializable, locked_part, Shown, after_setups, goes_told, settle_told, send_all_told, first_rows, start_told}
use Rattle.serial_history.specs.Reading.{Reading, read, told_in, data_of}
use Rattle.events.specs.declared.event.Event.{Event}
use Rattle.machine_model.specs.Laws.{IsOf}

-- at each level: without the selects that asked for no lock the commits of a line, run one after another without locks, give their events and leave the
-- line's rows, and the open transactions run again give their events and overlays
abbrev pub LinesHaveHeirs : Type 0
LinesHaveHeirs =
    (start : Rows') (steps : List Step) (w : World) (ks : List ℕ) (h : History) → Sound w → ((k : ℕ) → IsOf steps w k) → Told start w (locked_part h)
    → Told start (send_all steps w ks) (locked_part (send_all_told steps w ks h))

-- from the start of a spec: the same, with the commits of session setups, from the rows after the main setups
abbrev pub SpecsHaveHeirs : Type 0
SpecsHaveHeirs =
    (spec : Spec) (w : World) (ks : List ℕ) → IsBound spec → start spec ≡ Started w
    → Told (first_rows spec) (send_all spec.steps w ks) (locked_part (send_all_told spec.steps w ks (start_told spec)))

-- where no select asked for no lock, nothing is left out: the commits of a line, run one after another without locks, give their events and leave the line's
-- rows, and the open transactions run again give their events and overlays
abbrev pub LinesAreSerial : Type 0
LinesAreSerial =
    (start : Rows') (steps : List Step) (w : World) (ks : List ℕ) (h : History) → Sound w → ((k : ℕ) → IsOf steps w k) → Told start w (locked_part h)
    → IsWhole (send_all_told steps w ks h) → Told start (send_all steps w ks) (send_all_told steps w ks h)

-- from the start of a spec: the same, with the commits of session setups, from the rows after the main setups
abbrev pub SpecsAreSerial : Type 0
SpecsAreSerial =
    (spec : Spec) (w : World) (ks : List ℕ) → IsBound spec → start spec ≡ Started w → IsWhole (send_all_told spec.steps w ks (start_told spec))
    → Told (first_rows spec) (send_all spec.steps w ks) (send_all_told spec.steps w ks (start_told spec))

-- no select asks for no lock where each statement of a spec asks for its whole plan, as where levels are not asked for
abbrev pub LockedSpecsAreWhole : Type 0
LockedSpecsAreWhole =
    (spec : Spec) (w : World) (ks : List ℕ) → IsBound spec → AskAlways spec → start spec ≡ Started w → IsWhole (send_all_told spec.steps w ks (start_told spec))

-- whatever level the others have, nothing is left out of a transaction at SERIALIZABLE
abbrev pub SerializableStaysWhole : Type 0
SerializableStaysWhole =
    (spec : Spec) (w : World) (ks : List ℕ) → IsBound spec → start spec ≡ Started w → KeepsSerializable (send_all_told spec.steps w ks (start_told spec))

-- these commits stand first, in their order, and the others come behind them
abbrev pub ComeFirst : List Transaction → List Transaction → Type 0
ComeFirst earlier all = (later : List Transaction) × (all ≡ earlier ++ later)

-- commits stand in the order in which they come, whosever they are: those of a line's front come first in the line's, and within a step those that
-- there are come before those of the session that goes on, and they before those of the waits that are granted then, one after another
pub record CommitsStayInOrder : Type 0 where
  pub fronts : (steps : List Step) (w : World) (ks more : List ℕ) (h : History)
      → ComeFirst (send_all_told steps w ks h).commits (send_all_told steps w (ks ++ more) h).commits
  pub going : (w : World) (i : ℕ) (s : Session) (ts : List Task) (h : History) → ComeFirst h.commits (goes_told w i s ts h).commits
  pub granting : (n : ℕ) (w : World) (h : History) → ComeFirst h.commits (settle_told n w h).commits

-- the history of a line is that of its transcripts: each, read from where its session stood, tells its status, the data events of its open
-- transaction, and those of each that ended, with whether it was committed; and the session's commits are those that it ended by a commit
abbrev pub HistoriesShow : Type 0
HistoriesShow =
    (from : ℕ → Reading) (steps : List Step) (w : World) (ks : List ℕ) (h : History) → Sound w → ((k : ℕ) → IsOf steps w k) → Shown from w h
    → Shown from (send_all steps w ks) (send_all_told steps w ks h)

-- from the start of a spec: the same, read from nothing, through what its setup told each session
abbrev pub SpecsShow : Type 0
SpecsShow =
    (spec : Spec) (w : World) (ks : List ℕ) → IsBound spec → start spec ≡ Started w
    → Shown (after_setups spec) (send_all spec.steps w ks) (send_all_told spec.steps w ks (start_told spec))

-- reading loses and adds nothing: what it tells then is what it told, and the data events that were read, in their order
abbrev pub ReadingsKeepData : Type 0
ReadingsKeepData = (x : Reading) (es : List Event) → told_in (read x es) ≡ told_in x ++ data_of es
