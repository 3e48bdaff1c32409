-- Orders as a spec file writes them: names with a blank between each two.
use Rattle.std.specs.Prelude.{ℕ, Bool, false, not, ◌&&◌, ◌||◌, ◌==◌, List, [], ◌∷◌, ◌++◌, length, map, flat_map, codes, bytes_eq, cond}
use Rattle.std.specs.List.{list_any, prefix_len}
use Rattle.byte_runs.specs.Bytes.{begins_name, in_class}
use Rattle.byte_runs.specs.declared.runs.Class.TheVariants as class
use Rattle.bound_specs.specs.Spec.{SpecFile}
use Rattle.order_names.specs.Orders.{Name, name_of}

-- a word of the grammar, which is a name in quotes alone
abbrev pub is_keyword : Name → Bool
is_keyword name =
    bytes_eq name (codes "setup") || bytes_eq name (codes "teardown") || bytes_eq name (codes "session") || bytes_eq name (codes "step")
    || bytes_eq name (codes "permutation") || bytes_eq name (codes "notices")

-- a name that needs no quotes
abbrev pub is_plain : Name → Bool
is_plain [] = false
is_plain (b ∷ bs) = begins_name b && (prefix_len (in_class class.Name) (b ∷ bs) == length (b ∷ bs)) && not (is_keyword (b ∷ bs))

-- two quotes for each
abbrev pub doubled : List ℕ → List ℕ
doubled text = flat_map (λ b. cond (b == 34) (34 ∷ 34 ∷ []) (b ∷ [])) text

abbrev pub spelled : Name → List ℕ
spelled name = cond (is_plain name) name (codes "\"" ++ (doubled name ++ codes "\""))

-- what stands behind a name: a line feed where it is the last, and else a blank
abbrev pub separator : Bool → List ℕ
separator last = cond last (codes "\n") (codes " ")

abbrev pub is_none : {A : Type 0} → List A → Bool
is_none xs = length xs == 0

-- a line of the names
abbrev pub order_text : List Name → List ℕ
order_text [] = []
order_text (name ∷ names) = spelled name ++ (separator (is_none names) ++ order_text names)

-- the names of these steps
abbrev pub names_of : SpecFile → List ℕ → List Name
names_of file line = map (name_of file) line
