-- What the tokens of a text are as values that are read one after the other.
use Rattle.std.specs.Prelude.{◌≡◌, ℕ, ◌≤◌, List, length, Option, Some, None}
use Rattle.json.specs.Token.{Token}
use Rattle.json.specs.Json.{after_end_array, items, value}
use Rattle.serde_json.specs.Data.{Data, Items}
use Rattle.serde_json.specs.Read.{of_json, of_items, converted}

-- a value comes first, no deeper than the number, and these tokens are left
abbrev pub IsValueAt : ℕ → List Token → Data → List Token → Type 0
IsValueAt depth ts d left = converted of_json (value depth ts) ≡ Some (d, left)

-- how deep an item of a member of an object may be
abbrev pub item_depth : ℕ
item_depth = 125

-- how deep a member of an object may be
abbrev pub member_depth : ℕ
member_depth = 126

-- the next item of such an array, or the bracket behind the last one
abbrev pub IsItemAt : List Token → Option Data → List Token → Type 0
IsItemAt ts None left = after_end_array ts ≡ Some left
IsItemAt ts (Some d) left = (after_end_array ts ≡ None) × IsValueAt item_depth ts d left

-- the items up to the bracket behind the last one
abbrev pub AreItemsAt : List Token → Items → List Token → Type 0
AreItemsAt ts ds left = (n : ℕ) → length ts ≤ n → converted of_items (items (value item_depth) n ts) ≡ Some (ds, left)
