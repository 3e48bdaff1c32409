-- Which fault the program tells for what a call refuses of the file at a path.
use Rattle.std.specs.Prelude.{◌≡◌, ◌≢◌, ℕ, ◌++◌, List, codes, Option, Some, option_map, string_bytes, slice_get}
use Rattle.std.specs.Borrow.{Bor}
use Rattle.spec_reader.specs.declared.error.Kind.{Kind as SpecErrorKind}
use Rattle.spec_reader.specs.declared.error.Kind.TheVariants as spec_kind
use Rattle.spec_reader.specs.Refusals.{number_of as spec_number}
use Rattle.sql_grammar.specs.Refusals.{number_of as sql_number}
use Rattle.binding_model.specs.declared.error.BindErrorKind.{BindErrorKind}
use Rattle.binding_model.specs.declared.error.BindErrorKind.TheVariants as bind_kind
use Rattle.binding_model.specs.Refusals.{bind_number_of}
use Rattle.session_steps.specs.declared.error.StartError.{StartError}
use Rattle.session_steps.specs.declared.error.StartError.TheVariants as start_error
use Rattle.session_steps.specs.Refused.{number_of as start_number}
use Rattle.session_machine.specs.declared.error.RunError.{RunError}
use Rattle.session_machine.specs.declared.error.RunError.TheVariants as run_error
use Rattle.fact_books.specs.declared.error.ReportError.{ReportError}
use Rattle.fact_books.specs.declared.error.ReportError.TheVariants as report_error
use Rattle.book_format.specs.declared.error.BookError.{BookError}
use Rattle.book_format.specs.declared.error.BookError.TheVariants as book_error
use Rattle.book_format.specs.Reading.{book_number_of}
use Rattle.book_format.specs.declared.write_error.WriteError.{WriteError}
use Rattle.book_format.specs.declared.write_error.WriteError.TheVariants as write_error
use Rattle.spec_binding.specs.declared.spec.SpecFault.{SpecFault}
use Rattle.spec_binding.specs.declared.spec.SpecFault.TheVariants as spec_fault
use Rattle.spec_commands.specs.declared.single.OneFault.{OneFault}
use Rattle.spec_commands.specs.declared.single.OneFault.TheVariants as one_fault
use Rattle.spec_commands.specs.declared.ordering.RankFault.{RankFault}
use Rattle.spec_commands.specs.declared.ordering.RankFault.TheVariants as rank_fault
use Rattle.spec_commands.specs.declared.ordering.OrderFault.{OrderFault}
use Rattle.spec_commands.specs.declared.ordering.OrderFault.TheVariants as order_fault
use Rattle.spec_levels.specs.declared.asking.LevelFaultKind.{LevelFaultKind}
use Rattle.spec_levels.specs.declared.asking.LevelFaultKind.TheVariants as level_fault
use Rattle.spec_commands.specs.declared.showing.ShowFault.{ShowFault}
use Rattle.spec_commands.specs.declared.showing.ShowFault.TheVariants as show_fault
use Rattle.spec_commands.specs.Ordering.{IsNamePlace}
use Rattle.spec_commands.specs.declared.counting.CountFault.{CountFault}
use Rattle.spec_commands.specs.declared.counting.CountFault.TheVariants as count_fault
use Rattle.spec_checks.specs.declared.checking.CheckFault.{CheckFault}
use Rattle.spec_checks.specs.declared.checking.CheckFault.TheVariants as check_fault
use Rattle.book_commands.specs.declared.joining.FileFault.{FileFault}
use Rattle.book_commands.specs.declared.joining.FileFault.TheVariants as file_fault
use Rattle.book_commands.specs.declared.joining.JoinFault.{JoinFault}
use Rattle.book_commands.specs.declared.joining.JoinFault.TheVariants as join_fault
use Rattle.book_commands.specs.declared.reporting.ReportFault.TheVariants as values_fault
use Rattle.book_commands.specs.declared.reporting.ReportFileFault.{ReportFileFault}
use Rattle.book_commands.specs.declared.reporting.ReportFileFault.TheVariants as report_fault
use Rattle.book_commands.specs.declared.auditing.AuditFault.{AuditFault}
use Rattle.book_commands.specs.declared.auditing.AuditFault.TheVariants as audit_fault
use Rattle.book_commands.specs.declared.holding.HoldFault.{HoldFault}
use Rattle.book_commands.specs.declared.holding.HoldFault.TheVariants as hold_fault
use Rattle.book_commands.specs.declared.missing.MissingFault.{MissingFault}
use Rattle.book_commands.specs.declared.missing.MissingFault.TheVariants as missing_fault
use Rattle.book_commands.specs.declared.judging.NoReport.{NoReport}
use Rattle.book_commands.specs.declared.judging.NoReport.TheVariants as no_report
use Rattle.book_commands.specs.declared.judging.JudgeFault.{JudgeFault}
use Rattle.book_commands.specs.declared.judging.JudgeFault.TheVariants as judge_fault
use Rattle.class_commands.specs.declared.classing.ClassesFault.{ClassesFault}
use Rattle.class_commands.specs.declared.classing.ClassesFault.TheVariants as classes_fault
use Rattle.class_commands.specs.declared.booking.BookClassesFault.{BookClassesFault}
use Rattle.class_commands.specs.declared.booking.BookClassesFault.TheVariants as outcomes_fault
use Rattle.class_looks.specs.declared.fault.LookFault.{LookFault}
use Rattle.class_looks.specs.declared.fault.LookFault.TheVariants as look_fault
use Rattle.asked_classes.specs.declared.fault.AskedFault.{AskedFault}
use Rattle.asked_classes.specs.declared.fault.AskedFault.TheVariants as asked_fault
use Rattle.range_commands.specs.declared.ranges.RangeFault.{RangeFault}
use Rattle.range_commands.specs.declared.ranges.RangeFault.TheVariants as range_fault
use Rattle.spec_findings.specs.Told.{AreTold}
use Rattle.fault_texts.specs.declared.fault.ProgramFault.{ProgramFault}
use Rattle.fault_texts.specs.declared.fault.ProgramFault.TheVariants.{Spec, Sql, Bind, NoSuchLevel, SecondLevel, NotModelled, Start, RankOutOfRange, Shard, Book, BookTooLarge, OtherSpec}
use Rattle.fault_texts.specs.declared.fault.ProgramFault.TheVariants.{TooManyRanks, Explained, Missing, Clash, NoMemory, Read, Write}
use Rattle.fault_texts.specs.declared.fault.ProgramFault.TheVariants.{NoStep, Twice, OutOfTurn, LeftOut, NoLine, NoSession, NoSerialOrders, TooManyStates, LookSql, LookBind, NotOneSelect, NoValue}

-- a path as the words have it
abbrev pub Path : Type 0
Path = Bor (List ℕ)

abbrev pub text_told : Path → ℕ → SpecErrorKind → ProgramFault
text_told path offset spec_kind.NoMemory = NoMemory
text_told path offset kind = Spec path (spec_number kind) offset

abbrev pub binding_told : Path → ℕ → BindErrorKind → ProgramFault
binding_told path offset bind_kind.NoMemory = NoMemory
binding_told path offset (bind_kind.Sql kind) = Sql path (sql_number kind) offset
binding_told path offset kind = Bind path (bind_number_of kind) offset

abbrev pub spec_told : Path → SpecFault → ProgramFault
spec_told path (spec_fault.Text error) = text_told path error.offset error.kind
spec_told path (spec_fault.Binding error) = binding_told path error.offset error.kind

abbrev pub start_told : Path → StartError → ProgramFault
start_told path (start_error.SetupFailed block) = Start path 1 block
start_told path (start_error.SessionSetupFailed session) = Start path 2 session
start_told path (start_error.SessionSetupWaits session) = Start path 3 session
start_told path start_error.NoMemory = NoMemory

abbrev pub run_told : Path → RunError → ProgramFault
run_told path run_error.OutOfRange = Shard path 1
run_told path run_error.TooLong = Shard path 2
run_told path (run_error.Start error) = start_told path error
run_told path run_error.NoMemory = NoMemory
run_told path run_error.TooDeep = NoMemory

abbrev pub one_told : Path → OneFault → ProgramFault
one_told path (one_fault.Spec fault) = spec_told path fault
one_told path one_fault.OutOfRange = RankOutOfRange path
one_told path (one_fault.Run error) = run_told path error
one_told path (one_fault.Write fault) = Write

abbrev pub count_told : Path → CountFault → ProgramFault
count_told path (count_fault.Spec fault) = spec_told path fault
count_told path (count_fault.Write fault) = Write

-- of the name at a place that is told
abbrev pub rank_told : Path → List Path → RankFault → Option ProgramFault
rank_told path names (rank_fault.Spec fault) = Some (spec_told path fault)
rank_told path names (rank_fault.UnknownStep place) = option_map (λ name. NoStep path name) (slice_get names place)
rank_told path names (rank_fault.Again place) = option_map (λ name. Twice path name) (slice_get names place)
rank_told path names (rank_fault.OutOfTurn place due) = option_map (λ name. OutOfTurn path name due) (slice_get names place)
rank_told path names (rank_fault.LeftOut due) = Some (LeftOut path due)
rank_told path names rank_fault.NoLine = Some (NoLine path)
rank_told path names rank_fault.NoMemory = Some NoMemory
rank_told path names (rank_fault.Write fault) = Some Write

abbrev pub order_told : Path → OrderFault → ProgramFault
order_told path (order_fault.Spec fault) = spec_told path fault
order_told path order_fault.OutOfRange = RankOutOfRange path
order_told path order_fault.NoMemory = NoMemory
order_told path (order_fault.Write fault) = Write

-- of the line on which the file says something wrong of levels
abbrev pub level_told : Path → ℕ → LevelFaultKind → ProgramFault
level_told path line level_fault.NoSuchLevel = NoSuchLevel path line
level_told path line level_fault.SecondLevel = SecondLevel path line
level_told path line level_fault.NotModelled = NotModelled path line

-- of the name at a place that is told, where the order has no rank
abbrev pub show_told : Path → List Path → ShowFault → Option ProgramFault
show_told path names (show_fault.Spec fault) = Some (spec_told path fault)
show_told path names (show_fault.Level fault) = Some (level_told path fault.line fault.kind)
show_told path names (show_fault.NoRank fault) = rank_told path names fault
show_told path names show_fault.OutOfRange = Some (RankOutOfRange path)
show_told path names (show_fault.Run error) = Some (run_told path error)
show_told path names show_fault.NoMemory = Some NoMemory
show_told path names (show_fault.Write fault) = Some Write

-- a place that the fault names is one of so many names
abbrev pub IsShowPlace : ℕ → ShowFault → Type 0
IsShowPlace count (show_fault.NoRank fault) = IsNamePlace count fault
IsShowPlace count fault = Unit {0}

-- of the text of a look, which has another fault for want of memory
abbrev pub look_told : Path → LookFault → ProgramFault
look_told text (look_fault.Sql error) = LookSql text (sql_number error.kind) error.offset
look_told text look_fault.NotOneSelect = NotOneSelect text
look_told text (look_fault.Binding error) = LookBind text (bind_number_of error.kind) error.offset
look_told text look_fault.NoMemory = NoMemory

abbrev pub asked_told : Path → AskedFault → ProgramFault
asked_told path (asked_fault.UnknownSession name) = NoSession path name
asked_told path asked_fault.NotTold = NoSerialOrders path
asked_told path (asked_fault.NoLook text fault) = look_told text fault
asked_told path (asked_fault.NoValue word) = NoValue word
asked_told path asked_fault.NoMemory = NoMemory

abbrev pub classing_told : Path → ClassesFault → ProgramFault
classing_told path (classes_fault.Spec fault) = spec_told path fault
classing_told path (classes_fault.Level fault) = level_told path fault.line fault.kind
classing_told path (classes_fault.Asked fault) = asked_told path fault
classing_told path (classes_fault.Run error) = run_told path error
classing_told path (classes_fault.TooMany noted) = TooManyStates path noted
classing_told path classes_fault.NoMemory = NoMemory
classing_told path (classes_fault.Write fault) = Write

abbrev pub write_told : WriteError → ProgramFault
write_told write_error.TooLarge = BookTooLarge
write_told write_error.NoMemory = NoMemory
write_told write_error.WriteFault = Write

abbrev pub range_told : Path → RangeFault → ProgramFault
range_told path (range_fault.Spec fault) = spec_told path fault
range_told path (range_fault.Run error) = run_told path error
range_told path (range_fault.Write error) = write_told error

abbrev pub book_told : Path → BookError → ProgramFault
book_told path book_error.NoMemory = NoMemory
book_told path book_error.ReadFault = Read path
book_told path error = Book path (book_number_of error)

abbrev pub file_told : Path → FileFault → ProgramFault
file_told path file_fault.Unopened = Read path
file_told path (file_fault.Book error) = book_told path error

-- of the file at a place the path there is told
abbrev pub join_told : List Path → JoinFault → Option ProgramFault
join_told paths (join_fault.File place fault) = option_map (λ path. file_told path fault) (slice_get paths place)
join_told paths (join_fault.OtherSpec place) = option_map (λ path. OtherSpec path) (slice_get paths place)
join_told paths join_fault.NoMemory = Some NoMemory
join_told paths (join_fault.Write error) = Some (write_told error)

-- of books that clash the first path is told
abbrev pub outcomes_told : List Path → BookClassesFault → Option ProgramFault
outcomes_told paths (outcomes_fault.Join fault) = join_told paths fault
outcomes_told paths (outcomes_fault.Clash rank) = option_map (λ path. Clash path rank) (slice_get paths 0)
outcomes_told paths outcomes_fault.NoMemory = Some NoMemory
outcomes_told paths (outcomes_fault.Write fault) = Some Write

-- the same of books that are asked what they miss
abbrev pub missing_told : List Path → MissingFault → Option ProgramFault
missing_told paths (missing_fault.Join fault) = join_told paths fault
missing_told paths (missing_fault.Clash rank) = option_map (λ path. Clash path rank) (slice_get paths 0)
missing_told paths missing_fault.NoMemory = Some NoMemory
missing_told paths (missing_fault.Write fault) = Some Write

abbrev pub values_told : Path → ReportError → ProgramFault
values_told path report_error.TooMany = TooManyRanks path
values_told path (report_error.Missing rank) = Missing path rank
values_told path (report_error.Clash rank) = Clash path rank
values_told path report_error.NoMemory = NoMemory

abbrev pub report_told : Path → ReportFileFault → ProgramFault
report_told path (report_fault.File fault) = file_told path fault
report_told path (report_fault.Report (values_fault.Report error)) = values_told path error
report_told path (report_fault.Report (values_fault.Write fault)) = Write

abbrev pub audit_told : Path → AuditFault → ProgramFault
audit_told path (audit_fault.File fault) = file_told path fault
audit_told path audit_fault.NoMemory = NoMemory
audit_told path (audit_fault.Write fault) = Write

abbrev pub hold_told : Path → HoldFault → ProgramFault
hold_told path (hold_fault.File fault) = file_told path fault
hold_told path (hold_fault.Write fault) = Write

abbrev pub no_report_told : Path → NoReport → ProgramFault
no_report_told path (no_report.File fault) = file_told path fault
no_report_told path (no_report.Report error) = values_told path error

abbrev pub judge_told : Path → List Path → JudgeFault → Option ProgramFault
judge_told path accepted (judge_fault.Book fault) = Some (no_report_told path fault)
judge_told path accepted (judge_fault.Accepted place fault) = option_map (λ other. no_report_told other fault) (slice_get accepted place)
judge_told path accepted judge_fault.NoMemory = Some NoMemory
judge_told path accepted (judge_fault.Write fault) = Some Write

-- what a check tells of a file that is no spec: some line, and behind it where in the file its faults are and what is wrong; or that memory ran out, as it
-- always does where that is the fault
abbrev pub IsExplained : Path → List ℕ → SpecFault → ProgramFault → Type 0
IsExplained path text fault (Explained told) =
    (spec_told path fault ≢ NoMemory)
    × ((line explained : List ℕ) × AreTold path.now text fault explained × (string_bytes told ≡ line ++ (codes "\n" ++ explained)))
IsExplained path text fault told = told ≡ NoMemory

-- and of a spec file whose levels are wrong, what other commands tell of it
abbrev pub IsCheckTold : Path → List ℕ → CheckFault → ProgramFault → Type 0
IsCheckTold path text (check_fault.Spec fault) told = IsExplained path text fault told
IsCheckTold path text (check_fault.Level fault) told = told ≡ level_told path fault.line fault.kind
IsCheckTold path text check_fault.NoMemory told = told ≡ NoMemory
IsCheckTold path text (check_fault.Write fault) told = told ≡ Write
