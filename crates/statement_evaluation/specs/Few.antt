-- How a list of few items is kept. No public clause cites this module but an invariant.
use Rattle.std.specs.Prelude.{◌≡◌, ◌⊎◌, List, [], Option, None}

-- an item alone or a list of items, not both
abbrev pub IsFew : {T : Type 0} → Option T → List T → Type 0
IsFew one items = (one ≡ None) ⊎ (items ≡ [])
