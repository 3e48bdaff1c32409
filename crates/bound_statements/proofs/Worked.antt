-- What statements ask for at each level, worked by hand: a select of all rows, and one of the row with key 1.
use Rattle.std.specs.Prelude.{◌≡◌, Bool, true, false, [], ◌∷◌, Option, Some, None, pos}
use Rattle.std.proofs.Common.{refl}
use Rattle.lock_modes.specs.declared.mode.Mode.TheVariants.{IntentShare, IntentExclusive, Share, Exclusive}
use Rattle.lock_modes.specs.declared.resource.Resource.TheVariants.{Table, Row as RowOf}
use Rattle.lock_modes.specs.declared.value.Value.TheVariants.{Int}
use Rattle.bound_statements.specs.declared.condition.Condition.TheVariants.{Always}
use Rattle.bound_statements.specs.declared.statement.Bound.{Bound}
use Rattle.bound_statements.specs.declared.statement.Bound.TheVariants.{Select, Begin}
use Rattle.bound_statements.specs.declared.statement.Level.{Level}
use Rattle.bound_statements.specs.declared.statement.Level.TheVariants.{Serializable, Committed}
use Rattle.bound_statements.specs.declared.statement.Output.TheVariants.{Columns}
use Rattle.bound_statements.specs.Levels.{asked, at_level, levelled}
use Rattle.bound_statements.specs.Plan.{request}

abbrev of_all : Option Level → Bound
of_all level = Select 0 None Always [] (Columns []) (record { exclusive = false; nowait = false; level = level })

abbrev of_one : Bool → Option Level → Bound
of_one exclusive level = Select 0 (Some (Int (pos 1))) Always [] (Columns []) (record { exclusive = exclusive; nowait = false; level = level })

-- a plain select asks for nothing at READ COMMITTED, outside a block and in one
plain-outside : asked (levelled (Some Committed) (of_all (Some Serializable))) ≡ []
plain-outside = refl

plain-inside : asked (at_level Committed (levelled (Some Serializable) (of_all (Some Serializable)))) ≡ []
plain-inside = refl

-- a block that names SERIALIZABLE keeps it
named-inside : asked (at_level Serializable (levelled (Some Committed) (of_all (Some Serializable)))) ≡ request (Table 0) Share ∷ []
named-inside = refl

-- where levels are not asked for, it locks in any block
not-asked : asked (at_level Committed (levelled None (of_all (Some Serializable)))) ≡ request (Table 0) Share ∷ []
not-asked = refl

-- FOR SHARE and FOR UPDATE ask at each level
shared-inside : asked (at_level Committed (levelled (Some Committed) (of_one false None)))
    ≡ request (Table 0) IntentShare ∷ request (RowOf 0 (Int (pos 1))) Share ∷ []
shared-inside = refl

updated-inside : asked (at_level Committed (levelled (Some Committed) (of_one true None)))
    ≡ request (Table 0) IntentExclusive ∷ request (RowOf 0 (Int (pos 1))) Exclusive ∷ []
updated-inside = refl

-- a BEGIN without a level has the one that is asked for, and one that names a level keeps it
begin-default : levelled (Some Committed) (Begin None) ≡ Begin (Some Committed)
begin-default = refl

begin-named : levelled (Some Committed) (Begin (Some Serializable)) ≡ Begin (Some Serializable)
begin-named = refl

begin-not-asked : levelled None (Begin (Some Committed)) ≡ Begin None
begin-not-asked = refl
