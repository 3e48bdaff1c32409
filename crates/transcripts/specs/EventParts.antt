-- The parts of an event's compact text: what its kind begins with, and the byte behind an item.
use Rattle.std.specs.Prelude.{ℕ, suc, ◌==◌, List, [], ◌∷◌, codes, get_or, if◌then◌else◌}

-- what events begin with, up to a number or a row, in the order of the table
abbrev pub fronts : List (List ℕ)
fronts =
    codes "[\"sent\"," ∷
    codes "[\"row\"," ∷
    codes "[\"rows\"," ∷
    codes "[\"inserted\"," ∷
    codes "[\"updated\"," ∷
    codes "[\"deleted\"," ∷
    codes "\"began\"" ∷
    codes "\"committed\"" ∷
    codes "\"rolledback\"" ∷
    codes "\"locked\"" ∷
    codes "\"set\"" ∷
    codes "[\"warned\"," ∷
    codes "[\"failed\"," ∷
    codes "\"waiting\"" ∷
    codes "\"resumed\"" ∷
    codes "\"done\"" ∷
    codes "[\"notsent\"," ∷ []

abbrev pub front_by : ℕ → List ℕ
front_by kind = get_or fronts kind []

-- the byte behind the item at this place of so many: the closing bracket behind the last one, or a comma
abbrev pub end_at : ℕ → ℕ → ℕ
end_at place count = if suc place == count then 93 else 44
