-- Faults of a spec file beyond its first one: what reading and binding tells of a part of a block by itself.
use Rattle.std.specs.Prelude.{◌≡◌, ℕ, List, take, drop, Any, Option, Some, None, Result, Ok, Err, ⊤}
use Rattle.spec_reader.specs.Tree.{BlockTree}
use Rattle.binding_model.specs.declared.error.BindError.{BindError}
use Rattle.binding_model.specs.declared.error.BindStop.{BindStop}
use Rattle.binding_model.specs.declared.error.BindStop.TheVariants.{Memory, Refused}
use Rattle.binding_model.specs.declared.tables.Table.{Table}
use Rattle.binding_model.specs.Refusals.{Bind}
use Rattle.bound_specs.specs.Binding.{offset_in, main_setup, bind_block}
use Rattle.file_blocks.specs.declared.blocks.Role.{Role}
use Rattle.file_blocks.specs.declared.blocks.Role.TheVariants.{Setup, Session}
use Rattle.file_blocks.specs.Blocks.{SentTree}

-- a part of a block, as a block by itself: so many bytes from a place of it on
abbrev pub piece : BlockTree → ℕ → ℕ → BlockTree
piece b begin len = record { at = offset_in b.at begin; text = take len (drop begin b.text) }

-- where tables are declared so, such a block is refused
abbrev pub Refuses : Role → List Table → BlockTree → BindError → Type 0
Refuses Setup tables b e = main_setup tables b ≡ Err e
Refuses Session tables b e = bind_block tables b ≡ Err e

-- for some tables a piece of the block is refused so by itself
pub record IsFaultOf (sent : SentTree) (e : BindError) : Type 0 where
  pub begin : ℕ
  pub len : ℕ
  pub tables : List Table
  pub refuses : Refuses sent.role tables (piece sent.block begin len) e

-- a piece of one of the blocks is
abbrev pub IsFaultIn : List SentTree → BindError → Type 0
IsFaultIn blocks e = Any (λ sent. IsFaultOf sent e) blocks

-- ---- what the code answers

-- what is refused is refused by this
abbrev pub Blames : {X Y : Type 0} → Result X BindStop → Bind Y → Type 0
Blames (Ok x) b = ⊤
Blames (Err Memory) b = ⊤
Blames (Err (Refused e)) b = b ≡ Err e

abbrev pub BlamesIn : {X : Type 0} → Result X BindStop → Role → List Table → BlockTree → Type 0
BlamesIn (Ok x) role tables b = ⊤
BlamesIn (Err Memory) role tables b = ⊤
BlamesIn (Err (Refused e)) role tables b = Refuses role tables b e

-- what is told of a block by itself is a refusal of it, for some tables
abbrev pub IsTold : Role → BlockTree → Option BindError → Type 0
IsTold role b None = ⊤
IsTold role b (Some e) = (tables : List Table) × Refuses role tables b e
