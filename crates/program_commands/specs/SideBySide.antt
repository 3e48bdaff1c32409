-- What workers find of specs that they test side by side.
use Rattle.std.specs.Prelude.{◌≡◌, ℕ, Bool, List, [], map, get_or, Option}
use Rattle.bound_statements.specs.declared.statement.Level.{Level}
use Rattle.book_commands.specs.Joining.{Files}
use Rattle.book_commands.specs.declared.finding.Finding.{Finding}
use Rattle.program_commands.specs.declared.one_spec.Found.{Found}
use Rattle.program_commands.specs.declared.side_by_side.Placed.{Placed}
use Rattle.program_commands.specs.Testing.{IsFoundOf}

abbrev pub findings_in : List Found → List Finding
findings_in found = map (λ f. f.finding) found

-- it is found of the spec at its place
abbrev pub IsPlaced : Files → Option Level → Bool → List (List ℕ) → Placed → Type 0
IsPlaced files level updates specs placed = IsFoundOf files level updates (get_or specs placed.place []) placed.found.finding
