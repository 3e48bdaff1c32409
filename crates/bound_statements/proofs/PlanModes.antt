-- Which modes write and which are exclusive, for the modes that stand for others.
use Rattle.std.specs.Prelude.{◌≡◌, true, false, not}
use Rattle.std.proofs.Common.{refl, ap, ◌∙◌, arith}
use Rattle.lock_modes.specs.Mode.{compatible, AtLeast}
use Rattle.lock_modes.specs.declared.mode.Mode.{Mode}
use Rattle.lock_modes.specs.declared.mode.Mode.TheVariants.{IntentShare, IntentExclusive, Share, ShareIntent, Exclusive}
use Rattle.lock_modes.proofs.ModeLaws.{conflicts-up}
use Rattle.bound_statements.specs.Plan.{writes_in, is_exclusive}

-- a mode writes where it conflicts with reading all rows
writes-is : (m : Mode) → writes_in m ≡ not (compatible m Share)
writes-is m = elim m as (λ k. writes_in k ≡ not (compatible k Share)) [
  | IntentShare ↦ refl
  | IntentExclusive ↦ refl
  | Share ↦ refl
  | ShareIntent ↦ refl
  | Exclusive ↦ refl
]

-- and is exclusive where it conflicts with reading any row
exclusive-is : (m : Mode) → is_exclusive m ≡ not (compatible m IntentShare)
exclusive-is m = elim m as (λ k. is_exclusive k ≡ not (compatible k IntentShare)) [
  | IntentShare ↦ refl
  | IntentExclusive ↦ refl
  | Share ↦ refl
  | ShareIntent ↦ refl
  | Exclusive ↦ refl
]

-- what stands for an exclusive mode is exclusive
pub exclusive-up : (n m : Mode) → AtLeast n m → is_exclusive m ≡ true → is_exclusive n ≡ true
exclusive-up n m e t =
    let meets : compatible m IntentShare ≡ false = grind (arith, exclusive-is m, t) in
    exclusive-is n ∙ ap not (conflicts-up n m IntentShare e meets)

-- what stands for a mode that writes writes
pub writes-up : (n m : Mode) → AtLeast n m → writes_in m ≡ true → writes_in n ≡ true
writes-up n m e t =
    let meets : compatible m Share ≡ false = grind (arith, writes-is m, t) in
    writes-is n ∙ ap not (conflicts-up n m Share e meets)
