-- Stores that one session alone has written, as in the tests.
use Rattle.lock_modes.specs.RowPlace.{RowPlace}
use Rattle.row_tables.specs.Layers.{Layers, IsOnlyWriterAt}

-- no session but 0 has written
pub record IsAlone (l : Layers) : Type 0 where
  pub each : (p : RowPlace) → IsOnlyWriterAt 0 p l
