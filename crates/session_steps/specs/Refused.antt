-- Why a spec does not start.
use Rattle.std.specs.Prelude.{◌≡◌, ℕ}
use Rattle.machine_model.specs.Start.{Start, SetupFailed, SessionSetupFailed, SessionSetupWaits}
use Rattle.session_steps.specs.declared.error.StartError.{StartError}
use Rattle.session_steps.specs.declared.error.StartError.TheVariants as start_error

-- the spec does not start for that reason, unless memory ran out
abbrev pub IsRefusedBy : StartError → Start → Type 0
IsRefusedBy (start_error.SetupFailed n) s = s ≡ SetupFailed n
IsRefusedBy (start_error.SessionSetupFailed i) s = s ≡ SessionSetupFailed i
IsRefusedBy (start_error.SessionSetupWaits i) s = s ≡ SessionSetupWaits i
IsRefusedBy start_error.NoMemory s = Unit {0}

-- the number of a refused start in fault lines
abbrev pub number_of : StartError → ℕ
number_of (start_error.SetupFailed n) = 1
number_of (start_error.SessionSetupFailed i) = 2
number_of (start_error.SessionSetupWaits i) = 3
number_of start_error.NoMemory = 4
