-- The file that a book's text is.
use Rattle.std.specs.Prelude.{◌≡◌, ◌≢◌, ℕ, List, [], Option, Some, None}
use Rattle.std.specs.Coded.{Coded-set}
use Rattle.std.proofs.Math.Logic.{∥∥₁_elim, ∥∥₁_prop}
use mathlib.Core.HLevel.{Σ_prop_path}
use Rattle.bound_specs.specs.Spec.{Spec, SpecFile, counts_of, queues_of}
use Rattle.bound_specs.specs.Binding.{IsFileOf}
use Rattle.bound_specs.specs.contracts.spec.Spec as file_row
use Rattle.bound_specs.proofs.FileLemmas.{one-file}

-- a file that the text is
abbrev pub FileOf : List ℕ → Type 0
FileOf text = (file : SpecFile) × ∥ IsFileOf text file ∥₁

-- there is one at most
pub one_file_of : (text : List ℕ) → IsProp (FileOf text)
one_file_of text a b =
    Σ_prop_path (λ _. ∥∥₁_prop)
    (∥∥₁_elim a.1 (Coded-set file_row.the_row.coded _ _) (λ p. ∥∥₁_elim b.1 (Coded-set file_row.the_row.coded _ _) (λ q. one-file text a.0 b.0 p q)))

-- the ranks are the words of this shape, or lines
abbrev pub IsShapeOf : Spec → Option (List ℕ) → Type 0
IsShapeOf run None = run.lines ≢ []
IsShapeOf run (Some counts) = (run.lines ≡ []) × (counts ≡ counts_of (queues_of run))
