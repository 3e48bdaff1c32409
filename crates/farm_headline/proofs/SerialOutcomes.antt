-- What the sequential machine tells of a spec is serial.
use Rattle.std.proofs.Common.{◌≡◌, refl, sym, ℕ, List, Option, Some, None}
use Rattle.bound_specs.specs.Levels.{AskAlways}
use Rattle.bound_specs.specs.Spec.{Spec, line_of, IsBound}
use Rattle.bound_specs.proofs.FileLemmas.{file-always, file-is-bound}
use Rattle.machine_model.specs.Start.{Start, Started, SetupFailed, SessionSetupFailed, SessionSetupWaits, start}
use Rattle.machine_model.specs.World.{send_all, outcome_of}
use Rattle.serial_history.specs.Serial.{IsSerial}
use Rattle.serial_history.proofs.LockedLines.{bound-serial}
use Rattle.serial_history.proofs.StartsTold.{bound-shown}
use Rattle.events.specs.declared.event.Event.{Event}
use Rattle.farm_headline.specs.Laws.{AreSerial, OutcomesAreSerial}

some-same : {A : Type 0} (a b : A) → Some a ≡ Some b → a ≡ b
some-same a b e = cc

abbrev told_of : Spec → List ℕ → Start → Option (List (List Event))
told_of spec line s = elim s [ Started w ↦ Some (outcome_of spec.sessions (send_all spec.steps w line)) | _ ↦ None ]

pub lines-serial : (spec : Spec) → IsBound spec → AskAlways spec → AreSerial spec
lines-serial spec bound always r outcome e = at (start spec) refl e
  where
    at : (s : Start) → start spec ≡ s → told_of spec (line_of spec r) s ≡ Some outcome → IsSerial spec (line_of spec r) outcome
    at (Started w) is h = record {
      world = w;
      starts = is;
      told = bound-serial spec w (line_of spec r) bound always is;
      shown = bound-shown spec w (line_of spec r) bound is;
      outcome_is = some-same _ _ (sym h);
    }
    at (SetupFailed n) is h = cc
    at (SessionSetupFailed n) is h = cc
    at (SessionSetupWaits n) is h = cc

pub outcomes-serial : OutcomesAreSerial
outcomes-serial file is = lines-serial file.run (file-is-bound _ _ is) (file-always _ _ is)
