-- The members of an object that are read one after the other.
use Rattle.std.specs.Prelude.{◌≡◌, ℕ, Bool, true, false, List, Option, Some, None}
use Rattle.serde_json.specs.Data.{Data, Members}
use Rattle.serde_json.specs.Find.{get_member}

-- how deep the whole may be
abbrev pub object_depth : ℕ
object_depth = 127

-- the member with this name is that, or there is none
abbrev pub IsMember : {X : Type 0} → (X → Data → Type 0) → List ℕ → Members → Option X → Type 0
IsMember P name found None = get_member name found ≡ None
IsMember P name found (Some x) = (d : Data) × (get_member name found ≡ Some d) × P x d

-- the same of a member that is only noted
abbrev pub IsNoted : (Data → Type 0) → List ℕ → Members → Bool → Type 0
IsNoted P name found false = get_member name found ≡ None
IsNoted P name found true = (d : Data) × (get_member name found ≡ Some d) × P d
