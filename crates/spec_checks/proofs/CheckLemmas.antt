-- What is written behind how much a spec has.
use Rattle.std.proofs.Common.{refl, ℕ, ◌++◌, List, Option, Err}
use Rattle.transcripts.proofs.Writing.{wrote-append, stopped-append, stopped-after}
use Rattle.transcripts.specs.Counted.{Wrote, Stopped}
use Rattle.transcripts.specs.declared.counted.Counted.{Counted}
use Rattle.bound_specs.specs.Spec.{SpecFile}
use Rattle.bound_specs.specs.Binding.{IsFileOf}
use Rattle.spec_commands.specs.Counting.{check_lines}
use Rattle.spec_checks.specs.Checking.{IsCheck, IsChecked, IsIdle, IsNotRead}
use Rattle.spec_checks.specs.declared.checking.CheckFault.{CheckFault}
use Rattle.spec_checks.specs.declared.checking.CheckFault.TheVariants.{Spec, Level, NoMemory, Write}

module _ {W : Type 0} (contents : W → Option (List ℕ)) where
  -- nothing is written
  pub check-unread : (old : Counted W) (bytes : List ℕ) (fault : CheckFault) → IsNotRead bytes fault → IsChecked contents old old bytes (Err fault)
  check-unread old bytes (Spec fault) is = (refl, is)
  check-unread old bytes (Level fault) is = (refl, is)
  check-unread old bytes NoMemory is = (refl, is)
  check-unread old bytes (Write fault) never = absurd never

  is-check : (bytes idle : List ℕ) (file : SpecFile) → IsFileOf bytes file → IsIdle bytes idle → IsCheck bytes (check_lines file ++ idle)
  is-check bytes idle file is told = record { file = file; is_file = is; idle = idle; has_part = told; text_is = refl }

  -- a front of how much it has
  pub check-stopped : (old new : Counted W) (bytes idle : List ℕ) → IsIdle bytes idle
      → (file : SpecFile) × IsFileOf bytes file × Stopped contents old new (check_lines file)
      → (text : List ℕ) × IsCheck bytes text × Stopped contents old new text
  check-stopped old new bytes idle told h =
      (check_lines h.0 ++ idle, is-check bytes idle h.0 h.1 told, stopped-append contents old new (check_lines h.0) idle h.2)

  -- all is written
  pub check-whole : (old mid new : Counted W) (bytes idle : List ℕ) → IsIdle bytes idle
      → (file : SpecFile) × IsFileOf bytes file × Wrote contents old mid (check_lines file) → Wrote contents mid new idle
      → (text : List ℕ) × IsCheck bytes text × Wrote contents old new text
  check-whole old mid new bytes idle told h w =
      (check_lines h.0 ++ idle, is-check bytes idle h.0 h.1 told, wrote-append contents old mid new (check_lines h.0) idle h.2 w)

  -- a front of what has no effect
  pub check-cut : (old mid new : Counted W) (bytes idle : List ℕ) → IsIdle bytes idle
      → (file : SpecFile) × IsFileOf bytes file × Wrote contents old mid (check_lines file) → Stopped contents mid new idle
      → (text : List ℕ) × IsCheck bytes text × Stopped contents old new text
  check-cut old mid new bytes idle told h w =
      (check_lines h.0 ++ idle, is-check bytes idle h.0 h.1 told, stopped-after contents old mid new (check_lines h.0) idle h.2 w)
