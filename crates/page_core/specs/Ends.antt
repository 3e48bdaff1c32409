-- How a call ends, by what is refused.
use Rattle.std.specs.Prelude.{ℕ}
use Rattle.spec_reader.specs.declared.error.Kind.{Kind as SpecErrorKind}
use Rattle.spec_reader.specs.declared.error.Kind.TheVariants as spec_kind
use Rattle.spec_reader.specs.Refusals.{number_of as spec_number}
use Rattle.sql_grammar.specs.Refusals.{number_of as sql_number}
use Rattle.binding_model.specs.declared.error.BindErrorKind.{BindErrorKind}
use Rattle.binding_model.specs.declared.error.BindErrorKind.TheVariants as bind_kind
use Rattle.binding_model.specs.Refusals.{bind_number_of}
use Rattle.session_steps.specs.declared.error.StartError.{StartError}
use Rattle.session_steps.specs.declared.error.StartError.TheVariants as start_error
use Rattle.session_machine.specs.declared.error.RunError.{RunError}
use Rattle.session_machine.specs.declared.error.RunError.TheVariants as run_error
use Rattle.spec_binding.specs.declared.spec.SpecFault.{SpecFault}
use Rattle.spec_binding.specs.declared.spec.SpecFault.TheVariants as spec_fault
use Rattle.spec_levels.specs.declared.asking.LevelFaultKind.{LevelFaultKind}
use Rattle.spec_levels.specs.declared.asking.LevelFaultKind.TheVariants as level_fault
use Rattle.spec_commands.specs.declared.showing.ShowFault.{ShowFault}
use Rattle.spec_commands.specs.declared.showing.ShowFault.TheVariants as show_fault
use Rattle.class_commands.specs.declared.classing.ClassesFault.{ClassesFault}
use Rattle.class_commands.specs.declared.classing.ClassesFault.TheVariants as classes_fault
use Rattle.page_core.specs.declared.ending.End.{End}
use Rattle.page_core.specs.declared.ending.TheConstants.{NO_SPEC, NO_SQL, UNBOUND, NO_RANK, NO_START, NO_MEMORY, TOO_MANY, NO_LEVEL}

-- an end with no kind and no place
abbrev pub end_of : ℕ → End
end_of fault = record { fault = fault; kind = 0; place = 0 }

abbrev pub text_end : ℕ → SpecErrorKind → End
text_end offset spec_kind.NoMemory = end_of NO_MEMORY
text_end offset kind = record { fault = NO_SPEC; kind = spec_number kind; place = offset }

abbrev pub binding_end : ℕ → BindErrorKind → End
binding_end offset bind_kind.NoMemory = end_of NO_MEMORY
binding_end offset (bind_kind.Sql kind) = record { fault = NO_SQL; kind = sql_number kind; place = offset }
binding_end offset kind = record { fault = UNBOUND; kind = bind_number_of kind; place = offset }

-- the bytes are no spec file
abbrev pub spec_end : SpecFault → End
spec_end (spec_fault.Text error) = text_end error.offset error.kind
spec_end (spec_fault.Binding error) = binding_end error.offset error.kind

abbrev pub start_end : StartError → End
start_end (start_error.SetupFailed block) = record { fault = NO_START; kind = 1; place = block }
start_end (start_error.SessionSetupFailed session) = record { fault = NO_START; kind = 2; place = session }
start_end (start_error.SessionSetupWaits session) = record { fault = NO_START; kind = 3; place = session }
start_end start_error.NoMemory = end_of NO_MEMORY

-- orders are not run
abbrev pub run_end : RunError → End
run_end run_error.OutOfRange = end_of NO_RANK
run_end run_error.TooLong = end_of NO_RANK
run_end (run_error.Start error) = start_end error
run_end run_error.NoMemory = end_of NO_MEMORY
run_end run_error.TooDeep = end_of NO_MEMORY

-- what the file says of levels is wrong
abbrev pub level_number : LevelFaultKind → ℕ
level_number level_fault.NoSuchLevel = 1
level_number level_fault.SecondLevel = 2
level_number level_fault.NotModelled = 3

abbrev pub level_end : ℕ → LevelFaultKind → End
level_end line kind = record { fault = NO_LEVEL; kind = level_number kind; place = line }

-- an order is not shown
abbrev pub show_end : ShowFault → End
show_end (show_fault.Spec fault) = spec_end fault
show_end (show_fault.Level fault) = level_end fault.line fault.kind
show_end (show_fault.NoRank fault) = end_of NO_RANK
show_end show_fault.OutOfRange = end_of NO_RANK
show_end (show_fault.Run error) = run_end error
show_end show_fault.NoMemory = end_of NO_MEMORY
show_end (show_fault.Write fault) = end_of NO_MEMORY

-- classes are not told
abbrev pub classes_end : ClassesFault → End
classes_end (classes_fault.Spec fault) = spec_end fault
classes_end (classes_fault.Level fault) = level_end fault.line fault.kind
classes_end (classes_fault.Asked fault) = end_of NO_MEMORY
classes_end (classes_fault.Run error) = run_end error
classes_end (classes_fault.TooMany noted) = record { fault = TOO_MANY; kind = 0; place = noted }
classes_end classes_fault.NoMemory = end_of NO_MEMORY
classes_end (classes_fault.Write fault) = end_of NO_MEMORY
