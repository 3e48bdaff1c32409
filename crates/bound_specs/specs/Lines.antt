-- In which orders the steps of a file are sent.
use Rattle.std.specs.Prelude.{ℕ, ◌&&◌, nat_le, List, [], ◌∷◌, ◌++◌, length, map, Option, Some, None, option_map, is_ok, if◌then◌else◌}
use Rattle.perm_ranks.specs.declared.TheConstants.{MAX_SESSIONS}
use Rattle.perm_ranks.specs.Shape.{shape_of}
use Rattle.perm_ranks.specs.Words.{total}
use Rattle.spec_reader.specs.declared.TheConstants.{MAX_ITEMS, MAX_LINES}
use Rattle.spec_reader.specs.Tree.{StepTree, SessionTree, ItemTree, LineTree, SpecTree}
use Rattle.bound_specs.specs.declared.TheConstants.{MAX_LINED_STEPS}
use Rattle.binding_model.specs.Names.{Name, place_in}

abbrev pub counts_in : List SessionTree → List ℕ
counts_in sessions = map (λ (s : SessionTree). length s.steps) sessions

abbrev pub step_names : List SessionTree → List Name
step_names [] = []
step_names (s ∷ ss) = map (λ (t : StepTree). t.name) s.steps ++ step_names ss

abbrev pub session_names : List SessionTree → List Name
session_names sessions = map (λ (s : SessionTree). s.head.name) sessions

abbrev pub then_some : {X : Type 0} → Option X → Option (List X) → Option (List X)
then_some None xs = None
then_some (Some x) xs = option_map (λ ys. x ∷ ys) xs

-- what each gives, where each gives something
abbrev pub all_some : {A X : Type 0} → (A → Option X) → List A → Option (List X)
all_some f [] = Some []
all_some f (a ∷ as') = then_some (f a) (all_some f as')

-- the number of the step of this name
abbrev pub step_number : List Name → ItemTree → Option ℕ
step_number names i = place_in i.name names

-- the numbers of the steps that a line names, of one item or more within the limit
abbrev pub numbered_line : List Name → LineTree → Option (List ℕ)
numbered_line names items = if nat_le 1 (length items) && nat_le (length items) MAX_ITEMS then all_some (step_number names) items else None

-- the lines of a file without lines are none, if its steps have a shape; with lines their steps and the lines are within the limits
abbrev pub lines_by : List SessionTree → List LineTree → Option (List (List ℕ))
lines_by sessions [] = if is_ok (shape_of (counts_in sessions)) then Some [] else None
lines_by sessions (l ∷ ls) =
    if nat_le (total (counts_in sessions)) MAX_LINED_STEPS && nat_le (length (l ∷ ls)) MAX_LINES
    then all_some (numbered_line (step_names sessions)) (l ∷ ls) else None

-- none where the file is outside the limits
abbrev pub orders_of : SpecTree → Option (List (List ℕ))
orders_of tree = if nat_le (length tree.sessions) MAX_SESSIONS then lines_by tree.sessions tree.lines else None
