-- How a list of stretches grows, and where a rank is in it.
use Rattle.std.specs.Prelude.{ℕ, Bool, false, cond, slice_index_or, Option, None, List, [], ◌∷◌}
use Rattle.class_stretches.specs.declared.stretch.Stretch.{Stretch}
use Rattle.class_stretches.specs.Stretches.{same_class}

-- where the stretch at a place ends, and its class
abbrev pub end_at : List Stretch → ℕ → ℕ
end_at ss k = (slice_index_or ss k (record { end = 0; class = None })).end

abbrev pub class_of : List Stretch → ℕ → Option ℕ
class_of ss k = (slice_index_or ss k (record { end = 0; class = None })).class

-- the last stretch is of this class
abbrev pub goes_on : List Stretch → Option ℕ → Bool
goes_on [] c = false
goes_on (s ∷ []) c = same_class s.class c
goes_on (s ∷ t ∷ ss) c = goes_on (t ∷ ss) c

-- with ranks of a class up to a new end: a last stretch of that class goes on
abbrev pub pushed : List Stretch → ℕ → Option ℕ → List Stretch
pushed [] e c = record { end = e; class = c } ∷ []
pushed (s ∷ []) e c = cond (same_class s.class c) (record { end = e; class = c } ∷ []) (s ∷ record { end = e; class = c } ∷ [])
pushed (s ∷ t ∷ ss) e c = s ∷ pushed (t ∷ ss) e c
