-- What the program does for what is asked.
use Rattle.std.specs.Prelude.{◌≡◌, ℕ, ◌+◌, ◌⊎◌, Bool, true, false, is_some, not, List, [], map, take, Option, None, Some, Result, Ok, Err, IfSome, ⊤}
use Rattle.std.specs.Io.KnownBytes.{Keeps}
use Rattle.transcripts.specs.Counted.{Wrote, Stopped, written, failures_of}
use Rattle.transcripts.specs.declared.counted.Counted.{Counted}
use Rattle.command_line.specs.Lines.{Line, IsLine, AsksFor}
use Rattle.command_line.specs.declared.words.Asked.{Asked}
use Rattle.command_line.specs.declared.words.Asked.TheVariants.{Check, One, Count, Rank, Order, Show, Classes, Levels, Outcomes, Run, Join, Missing, Holds, Report, Audit, Judge, Test}
use Rattle.command_line.specs.declared.wanted.Wanted.{Wanted}
use Rattle.command_line.specs.declared.wanted.Wanted.TheVariants as wanted
use Rattle.command_line.specs.declared.ranks.WantedRanks.{WantedRanks}
use Rattle.command_line.specs.declared.ranks.WantedRanks.TheVariants as which
use Rattle.spec_commands.specs.One.{IsOneRun}
use Rattle.spec_commands.specs.Counting.{IsCounted}
use Rattle.spec_checks.specs.Checking.{IsChecked}
use Rattle.spec_commands.specs.Ordering.{IsOrdered, IsRanked}
use Rattle.spec_commands.specs.Showing.{IsShowRun}
use Rattle.spec_commands.specs.declared.showing.ShowForm.{ShowForm}
use Rattle.spec_commands.specs.declared.showing.ShowForm.TheVariants as form
use Rattle.spec_commands.specs.declared.showing.WantedOrder.{WantedOrder}
use Rattle.spec_commands.specs.declared.showing.WantedOrder.TheVariants as order
use Rattle.class_commands.specs.Classing.{IsClassesRun}
use Rattle.class_commands.specs.Levels.{IsLevelsRun}
use Rattle.class_commands.specs.Booking.{IsBookClassesRun}
use Rattle.book_commands.specs.declared.finding.Finding.{Finding}
use Rattle.book_commands.specs.declared.finding.Finding.TheVariants.{Good}
use Rattle.book_commands.specs.Finding.{finding_status}
use Rattle.book_commands.specs.Joining.{Files, IsJoinRun}
use Rattle.book_commands.specs.Reporting.{IsFileReported}
use Rattle.book_commands.specs.Auditing.{IsAuditRun}
use Rattle.book_commands.specs.Judging.{IsJudgeRun}
use Rattle.book_commands.specs.Holding.{IsHoldRun}
use Rattle.book_commands.specs.Missing.{IsMissingRun}
use Rattle.book_commands.specs.declared.missing.MissingRanks.{MissingRanks}
use Rattle.book_commands.specs.declared.missing.MissingRanks.TheVariants as missing
use Rattle.range_commands.specs.Ranges.{IsRangeRun, IsRunOfAll}
use Rattle.range_commands.specs.declared.ranges.RangeFault.{RangeFault}
use Rattle.program_commands.specs.declared.files.TheConstants.{MAX_SPEC_READ}
use Rattle.fault_texts.specs.declared.fault.ProgramFault.{ProgramFault}
use Rattle.fault_texts.specs.declared.fault.ProgramFault.TheVariants.{NoMemory, Read, Write}
use Rattle.fault_texts.specs.Status.{status_of}
use Rattle.program_commands.specs.Testing.{IsTestRun}
use Rattle.program_commands.specs.Faults.{Path, one_told, count_told, rank_told, order_told, show_told, classing_told, outcomes_told, range_told, join_told, missing_told, report_told, audit_told, hold_told, judge_told, IsCheckTold}

-- what a call finds is the program's answer, and what it refuses is told
abbrev pub IsFound : {E : Type 0} → (Result Finding E → Type 0) → (E → ProgramFault → Type 0) → Result Finding ProgramFault → Type 0
IsFound Runs Tells (Ok finding) = Runs (Ok finding)
IsFound {E} Runs Tells (Err fault) = (error : E) × Runs (Err error) × Tells error fault

-- the same of a call that only writes: nothing is amiss where it is done
abbrev pub IsTold : {E : Type 0} → (Result ⊤ E → Type 0) → (E → ProgramFault → Type 0) → Result Finding ProgramFault → Type 0
IsTold Runs Tells (Ok finding) = (finding ≡ Good) × Runs (Ok tt)
IsTold {E} Runs Tells (Err fault) = (error : E) × Runs (Err error) × Tells error fault

-- a call over the bytes of a spec file: the file's own, where they are known, as far as a spec file is read
abbrev pub IsCalled : {E : Type 0} → Option (List ℕ) → (List ℕ → Result ⊤ E → Type 0) → (List ℕ → E → ProgramFault → Type 0) → Result Finding ProgramFault → Type 0
IsCalled known Runs Tells result = (bytes : List ℕ) × IfSome known (λ all. bytes ≡ take MAX_SPEC_READ all) × IsTold (Runs bytes) (Tells bytes) result

-- memory ran out; or the file at the path, whose bytes are not known then, was not opened or not read
abbrev pub IsReadFault : Option (List ℕ) → List ℕ → ProgramFault → Type 0
IsReadFault known path NoMemory = Unit {0}
IsReadFault known path (Read told) = (told.now ≡ path) × (known ≡ None)
IsReadFault known path fault = ⊥

-- the same of a call that finds something over the bytes of a spec file
abbrev pub IsFoundBy : {E : Type 0} → Option (List ℕ) → (List ℕ → Result Finding E → Type 0) → (E → ProgramFault → Type 0) → Result Finding ProgramFault → Type 0
IsFoundBy known Runs Tells result = (bytes : List ℕ) × IfSome known (λ all. bytes ≡ take MAX_SPEC_READ all) × IsFound (Runs bytes) Tells result

-- a file that is not read is told so, and nothing is written
abbrev pub IsUnread : {W : Type 0} → Option (List ℕ) → List ℕ → Counted W → Counted W → Result Finding ProgramFault → Type 0
IsUnread known path old new (Ok finding) = ⊥
IsUnread known path old new (Err fault) = (new ≡ old) × IsReadFault known path fault

-- the names of an order; a rank has none
abbrev pub names_in : Wanted → List Path
names_in (wanted.Rank rank) = []
names_in (wanted.Names names) = names.items

-- the order of the words is the one that a call is asked for
abbrev pub IsSame : Wanted → WantedOrder → Type 0
IsSame (wanted.Rank rank) (order.Rank n) = n ≡ rank
IsSame (wanted.Names names) (order.Names ns) = ns.now ≡ names.items
IsSame asked called = ⊥

abbrev pub form_by : Bool → ShowForm
form_by true = form.Json
form_by false = form.Text

-- lines are for what runs the ranks
abbrev pub missing_by : Bool → MissingRanks
missing_by true = missing.ToRun
missing_by false = missing.Untold

-- what is written for some ranks of a spec
abbrev pub IsRunOf : {W : Type 0} → (W → Option (List ℕ)) → Counted W → Counted W → List ℕ → WantedRanks → Bool → Result ⊤ RangeFault → Type 0
IsRunOf contents old new bytes which.All reduce result = IsRunOfAll contents old new bytes reduce result
IsRunOf contents old new bytes (which.Range first end) reduce result = IsRangeRun contents old new bytes first end reduce result

-- what is asked for is done
abbrev pub IsDone : Files → {W : Type 0} → (W → Option (List ℕ)) → Counted W → Counted W → Asked → Result Finding ProgramFault → Type 0
IsDone files contents old new (One path rank) result =
    IsUnread (files path.now) path.now old new result
    ⊎ IsCalled (files path.now) (λ bytes. IsOneRun contents old new bytes rank) (λ bytes error told. told ≡ one_told path error) result
IsDone files contents old new (Check path) result =
    IsUnread (files path.now) path.now old new result ⊎ IsCalled (files path.now) (IsChecked contents old new) (IsCheckTold path) result
IsDone files contents old new (Count path) result =
    IsUnread (files path.now) path.now old new result
    ⊎ IsCalled (files path.now) (IsCounted contents old new) (λ bytes error told. told ≡ count_told path error) result
IsDone files contents old new (Rank path names) result =
    IsUnread (files path.now) path.now old new result
    ⊎ IsCalled (files path.now) (λ bytes. IsRanked contents old new bytes (map (λ n. n.now) names.items))
    (λ bytes error told. rank_told path names.items error ≡ Some told) result
IsDone files contents old new (Order path rank) result =
    IsUnread (files path.now) path.now old new result
    ⊎ IsCalled (files path.now) (λ bytes. IsOrdered contents old new bytes rank) (λ bytes error told. told ≡ order_told path error) result
IsDone files contents old new (Show path order json level) result =
    IsUnread (files path.now) path.now old new result
    ⊎ ((wanted : WantedOrder) × IsSame order wanted
    × IsCalled (files path.now) (λ bytes. IsShowRun contents old new bytes path.now wanted (form_by json) level)
    (λ bytes error told. show_told path (names_in order) error ≡ Some told) result)
IsDone files contents old new (Classes path wanted progress) result =
    IsUnread (files path.now) path.now old new result
    ⊎ IsFoundBy (files path.now) (λ bytes. IsClassesRun contents old new bytes path.now wanted) (λ error told. told ≡ classing_told path error)
    result
IsDone files contents old new (Levels path wanted progress) result =
    IsUnread (files path.now) path.now old new result
    ⊎ IsCalled (files path.now) (λ bytes. IsLevelsRun contents old new bytes path.now wanted) (λ bytes error told. told ≡ classing_told path error) result
IsDone files contents old new (Outcomes paths wanted) result =
    IsTold (IsBookClassesRun files (map (λ p. p.now) paths) contents old new wanted) (λ error told. outcomes_told paths error ≡ Some told) result
IsDone files contents old new (Run path ranks every workers progress) result =
    IsUnread (files path.now) path.now old new result
    ⊎ IsCalled (files path.now) (λ bytes. IsRunOf contents old new bytes ranks (not every)) (λ bytes error told. told ≡ range_told path error) result
IsDone files contents old new (Join paths) result =
    IsTold (IsJoinRun files (map (λ p. p.now) paths) contents old new) (λ error told. join_told paths error ≡ Some told) result
IsDone files contents old new (Missing paths lines) result =
    IsFound (IsMissingRun files (map (λ p. p.now) paths) (missing_by lines) contents old new) (λ error told. missing_told paths error ≡ Some told) result
IsDone files contents old new (Holds path spec first end) result =
    IsUnread (files spec.now) spec.now old new result
    ⊎ IsFoundBy (files spec.now) (λ bytes. IsHoldRun (files path.now) bytes first end contents old new) (λ error told. told ≡ hold_told path error) result
IsDone files contents old new (Report path) result =
    IsTold (IsFileReported (files path.now) contents old new) (λ error told. told ≡ report_told path error) result
IsDone files contents old new (Audit path) result =
    IsFound (IsAuditRun (files path.now) contents old new) (λ error told. told ≡ audit_told path error) result
IsDone files contents old new (Judge path accepted show) result =
    IsFound (IsJudgeRun files path.now (map (λ p. p.now) accepted.items) show contents old new) (λ error told. judge_told path accepted.items error ≡ Some told) result
IsDone files contents old new (Test paths updates junit workers level) result = IsTestRun files (map (λ p. p.now) paths) level updates (is_some junit) result

-- a flush that does not fail: the bytes that are known to be written stay so, and no call has failed; what a device has got of them is not known
abbrev pub IsFlushed : {W : Type 0} → (W → Option (List ℕ)) → Counted W → Counted W → Type 0
IsFlushed contents old new = Keeps (written contents old) (written contents new) × (failures_of new ≡ failures_of old)

-- where the work is done there is a flush, and the answer stays; a fault of the flush is a write fault, and a fault of the work is passed on as it is
abbrev pub IsPassedOn : {W X : Type 0} → (W → Option (List ℕ)) → Counted W → Counted W → Result X ProgramFault → Result X ProgramFault → Type 0
IsPassedOn contents old new (Err fault) result = (new ≡ old) × (result ≡ Err fault)
IsPassedOn contents old new (Ok answer) (Ok given) = (given ≡ answer) × IsFlushed contents old new
IsPassedOn contents old new (Ok answer) (Err fault) =
    Keeps (written contents old) (written contents new) × (failures_of new ≡ failures_of old + 1) × (fault ≡ Write)

-- what is asked for is done, and where that is no fault, a flush follows
abbrev pub IsAnswered : Files → {W : Type 0} → (W → Option (List ℕ)) → Counted W → Counted W → Asked → Result Finding ProgramFault → Type 0
IsAnswered files {W} contents old new asked result =
    (work : Result Finding ProgramFault) × (between : Counted W) × IsDone files contents old between asked work × IsPassedOn contents between new work result

-- whether it is asked to be told how far a run is
abbrev pub tells_progress : Asked → Bool
tells_progress (One path rank) = false
tells_progress (Check path) = false
tells_progress (Count path) = false
tells_progress (Rank path names) = false
tells_progress (Order path rank) = false
tells_progress (Show path order json level) = false
tells_progress (Classes path wanted progress) = progress
tells_progress (Levels path wanted progress) = progress
tells_progress (Outcomes paths wanted) = false
tells_progress (Run path ranks every workers progress) = progress
tells_progress (Join paths) = false
tells_progress (Missing paths lines) = false
tells_progress (Holds path spec first end) = false
tells_progress (Report path) = false
tells_progress (Audit path) = false
tells_progress (Judge path accepted show) = false
tells_progress (Test paths updates junit workers level) = false

-- With which status the program ends. Where nothing is to be told on the way only a fault is told; where there is no memory for its line, that is
-- told in its place
abbrev pub IsEnd : {E : Type 0} → Asked → Counted E → Counted E → Result Finding ProgramFault → ℕ → Type 0
IsEnd asked old new (Ok finding) status = (tells_progress asked ≡ false → new ≡ old) × (status ≡ finding_status finding)
IsEnd asked old new (Err fault) status = (status ≡ status_of fault) ⊎ (status ≡ 4)

-- a text is written in part, or it is written whole and the flush fails
abbrev pub IsCut : {W : Type 0} → (W → Option (List ℕ)) → Counted W → Counted W → List ℕ → Type 0
IsCut {W} contents old new text =
    Stopped contents old new text
    ⊎ ((between : Counted W) × Wrote contents old between text × IsPassedOn {X = ⊤} contents between new (Ok tt) (Err Write))

-- words that ask for nothing: help is written and flushed; or nothing is written, and the words' fault is told, or that memory ran out; or help is cut
-- by a write fault, which is told, or that there is no memory to tell it
abbrev pub IsUsage : {W : Type 0} → (W → Option (List ℕ)) → Counted W → Counted W → ℕ → Type 0
IsUsage {W} contents old new status =
    ((status ≡ 0) × ((text : List ℕ) × (between : Counted W) × Wrote contents old between text × IsFlushed contents between new))
    ⊎ (((new ≡ old) × ((status ≡ 2) ⊎ (status ≡ 4))) ⊎ (((text : List ℕ) × IsCut contents old new text) × ((status ≡ 5) ⊎ (status ≡ 4))))

-- what the program does for some words: what these ask, or else their usage. What a plain line asks is defined, and such a line ends without being
-- done for want of memory alone
abbrev pub IsRun : Files → List (List ℕ) → {W E : Type 0} → (W → Option (List ℕ)) → Counted W → Counted W → Counted E → Counted E → ℕ → Type 0
IsRun files words contents old new told now status =
    ((asked : Asked) × (result : Result Finding ProgramFault) × ((line : Line) → IsLine words line → AsksFor line asked)
    × IsAnswered files contents old new asked result × IsEnd asked told now result status)
    ⊎ (IsUsage contents old new status × ((line : Line) → IsLine words line → (new ≡ old) × (status ≡ 4)))
