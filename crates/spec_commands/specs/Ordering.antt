-- What the program writes for an order of steps, and for the rank of one.
use Rattle.std.specs.Prelude.{◌≡◌, ℕ, ◌<◌, ◌≤◌, List, length, Result, Ok, Err, Option, ⊤, string_bytes}
use Rattle.bound_specs.specs.Spec.{SpecFile, ranks}
use Rattle.bound_specs.specs.Binding.{IsFileOf}
use Rattle.order_names.specs.declared.error.OrderError.{OrderError}
use Rattle.order_names.specs.declared.error.OrderError.TheVariants as order_error
use Rattle.order_names.specs.Orders.{Name, name_of, HasOrder, IsRankOf, IsRefused}
use Rattle.order_names.specs.Spelling.{order_text}
use Rattle.transcripts.specs.Counted.{Wrote, Stopped}
use Rattle.transcripts.specs.Lines.{number_line}
use Rattle.transcripts.specs.declared.counted.Counted.{Counted}
use Rattle.spec_binding.specs.SpecFiles.{IsNoSpec}
use Rattle.spec_commands.specs.declared.ordering.RankFault.{RankFault}
use Rattle.spec_commands.specs.declared.ordering.RankFault.TheVariants as rank_fault
use Rattle.spec_commands.specs.declared.ordering.OrderFault.{OrderFault}
use Rattle.spec_commands.specs.declared.ordering.OrderFault.TheVariants as order_fault

-- the step that an error names is one of the file's
abbrev pub NamesStep : SpecFile → OrderError → Type 0
NamesStep file (order_error.UnknownStep place) = Unit {0}
NamesStep file (order_error.Again place) = Unit {0}
NamesStep file (order_error.OutOfTurn place due) = due < length file.run.steps
NamesStep file (order_error.LeftOut due) = due < length file.run.steps
NamesStep file order_error.NoLine = Unit {0}
NamesStep file order_error.NoMemory = Unit {0}

-- the fault tells this error, with the names of steps; memory for a name may be wanted
abbrev pub IsExplained : SpecFile → OrderError → RankFault → Type 0
IsExplained file error (rank_fault.Spec fault) = ⊥
IsExplained file error (rank_fault.UnknownStep place) = error ≡ order_error.UnknownStep place
IsExplained file error (rank_fault.Again place) = error ≡ order_error.Again place
IsExplained file error (rank_fault.OutOfTurn place due) =
    (k : ℕ) × (error ≡ order_error.OutOfTurn place k) × (string_bytes due ≡ name_of file k)
IsExplained file error (rank_fault.LeftOut due) = (k : ℕ) × (error ≡ order_error.LeftOut k) × (string_bytes due ≡ name_of file k)
IsExplained file error rank_fault.NoLine = error ≡ order_error.NoLine
IsExplained file error rank_fault.NoMemory = Unit {0}
IsExplained file error (rank_fault.Write fault) = ⊥

-- a place that a fault names is one of so many names
abbrev pub IsNamePlace : ℕ → RankFault → Type 0
IsNamePlace count (rank_fault.Spec fault) = Unit {0}
IsNamePlace count (rank_fault.UnknownStep place) = place < count
IsNamePlace count (rank_fault.Again place) = place < count
IsNamePlace count (rank_fault.OutOfTurn place due) = place < count
IsNamePlace count (rank_fault.LeftOut due) = Unit {0}
IsNamePlace count rank_fault.NoLine = Unit {0}
IsNamePlace count rank_fault.NoMemory = Unit {0}
IsNamePlace count (rank_fault.Write fault) = Unit {0}

-- the order has no rank, and the fault tells why
abbrev pub IsNotRanked : SpecFile → List Name → RankFault → Type 0
IsNotRanked file names fault = (error : OrderError) × IsRefused file names error × IsExplained file error fault

-- the rank of the order is written, or a front of it; or nothing, where the bytes are no spec file or the order has no rank, or memory ran out
abbrev pub IsRanked : {W : Type 0} → (W → Option (List ℕ)) → Counted W → Counted W → List ℕ → List Name → Result ⊤ RankFault → Type 0
IsRanked contents old new bytes names (Ok done) =
    (file : SpecFile) × IsFileOf bytes file × ((rank : ℕ) × IsRankOf file names rank × Wrote contents old new (number_line rank))
IsRanked contents old new bytes names (Err (rank_fault.Spec fault)) = (new ≡ old) × IsNoSpec bytes fault
IsRanked contents old new bytes names (Err (rank_fault.Write fault)) =
    (file : SpecFile) × IsFileOf bytes file × ((rank : ℕ) × IsRankOf file names rank × Stopped contents old new (number_line rank))
IsRanked contents old new bytes names (Err fault) = (new ≡ old) × ((file : SpecFile) × IsFileOf bytes file × IsNotRanked file names fault)

-- the names of the steps of a rank are written in a line, or a front of it; or nothing, where the bytes are no spec file or there is no such rank, or
-- memory ran out
abbrev pub IsOrdered : {W : Type 0} → (W → Option (List ℕ)) → Counted W → Counted W → List ℕ → ℕ → Result ⊤ OrderFault → Type 0
IsOrdered contents old new bytes rank (Ok done) =
    (file : SpecFile) × IsFileOf bytes file × (rank < ranks file.run)
    × ((names : List Name) × HasOrder file rank names × Wrote contents old new (order_text names))
IsOrdered contents old new bytes rank (Err (order_fault.Spec fault)) = (new ≡ old) × IsNoSpec bytes fault
IsOrdered contents old new bytes rank (Err order_fault.OutOfRange) =
    (new ≡ old) × ((file : SpecFile) × IsFileOf bytes file × (ranks file.run ≤ rank))
IsOrdered contents old new bytes rank (Err order_fault.NoMemory) = new ≡ old
IsOrdered contents old new bytes rank (Err (order_fault.Write fault)) =
    (file : SpecFile) × IsFileOf bytes file × (rank < ranks file.run)
    × ((names : List Name) × HasOrder file rank names × Stopped contents old new (order_text names))
