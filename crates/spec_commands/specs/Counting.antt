-- What the program writes for how much a spec has.
use Rattle.std.specs.Prelude.{◌≡◌, ℕ, ◌++◌, List, length, codes, Option, Result, Ok, Err, ⊤}
use Rattle.bound_specs.specs.Spec.{SpecFile, ranks}
use Rattle.bound_specs.specs.Binding.{IsFileOf}
use Rattle.transcripts.specs.Counted.{Wrote, Stopped}
use Rattle.transcripts.specs.Lines.{number_line}
use Rattle.transcripts.specs.declared.counted.Counted.{Counted}
use Rattle.spec_commands.specs.declared.counting.CountFault.{CountFault}
use Rattle.spec_commands.specs.declared.counting.CountFault.TheVariants.{Spec, Write}
use Rattle.spec_binding.specs.SpecFiles.{IsNoSpec}

-- the number of the spec's permutations is written, or a front of it; or nothing, where the bytes are no spec file
abbrev pub IsCounted : {W : Type 0} → (W → Option (List ℕ)) → Counted W → Counted W → List ℕ → Result ⊤ CountFault → Type 0
IsCounted contents old new bytes (Ok done) = (file : SpecFile) × IsFileOf bytes file × Wrote contents old new (number_line (ranks file.run))
IsCounted contents old new bytes (Err (Spec fault)) = (new ≡ old) × IsNoSpec bytes fault
IsCounted contents old new bytes (Err (Write fault)) = (file : SpecFile) × IsFileOf bytes file × Stopped contents old new (number_line (ranks file.run))

-- sessions, steps and permutations, each on a line of its own
abbrev pub counts_lines : ℕ → ℕ → ℕ → List ℕ
counts_lines sessions steps permutations =
    (codes "sessions " ++ number_line sessions) ++ ((codes "steps " ++ number_line steps) ++ (codes "ranks " ++ number_line permutations))

abbrev pub check_lines : SpecFile → List ℕ
check_lines file = counts_lines file.run.sessions (length file.run.steps) (ranks file.run)

-- how much the spec has is written, or a front of it; or nothing, where the bytes are no spec file
abbrev pub IsChecked : {W : Type 0} → (W → Option (List ℕ)) → Counted W → Counted W → List ℕ → Result ⊤ CountFault → Type 0
IsChecked contents old new bytes (Ok done) = (file : SpecFile) × IsFileOf bytes file × Wrote contents old new (check_lines file)
IsChecked contents old new bytes (Err (Spec fault)) = (new ≡ old) × IsNoSpec bytes fault
IsChecked contents old new bytes (Err (Write fault)) = (file : SpecFile) × IsFileOf bytes file × Stopped contents old new (check_lines file)
