-- Rows at their places, and what a write leaves at one.
use Rattle.std.specs.Prelude.{List, Option}
use Rattle.finite_maps.specs.Map.{Map}
use Rattle.lock_modes.specs.RowPlace.{RowPlace, place_order}
use Rattle.lock_modes.specs.declared.value.Value.{Value}

-- the values of a row in the order of the columns
abbrev pub Tuple : Type 0
Tuple = List Value

-- committed rows, and the rows that a session sees
abbrev pub Rows' : Type 0
Rows' = Map place_order Tuple

-- what a write leaves at a place: a row, or none
pub record Write : Type 0 where
  pub place : RowPlace
  pub left : Option Tuple
