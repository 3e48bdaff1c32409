-- The parts of what is done for pages that a browser opens.
use Rattle.std.specs.Prelude.{◌≡◌, ℕ, List, ◌++◌}
use Rattle.bound_specs.specs.Spec.{SpecFile}
use Rattle.spec_commands.specs.Showing.{IsShowing}
use Rattle.spec_commands.specs.declared.showing.ShowForm.TheVariants.{Json}
use Rattle.class_commands.specs.Opened.{line, order_part}

-- the order of the rank stands behind what was there
abbrev pub IsPushed : List ℕ → List ℕ → SpecFile → ℕ → List ℕ → List ℕ → Type 0
IsPushed bytes path file rank old new = (order : List ℕ) × IsShowing bytes path file rank Json (line order) × (new ≡ old ++ order_part order)
