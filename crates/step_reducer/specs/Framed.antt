-- What a stack shows: frames with the worlds behind their letters.
use Rattle.std.specs.Prelude.{◌≡◌, Bool, false, List, [], ◌∷◌, length, reverse}
use Rattle.perm_ranks.specs.Blocks.{Block}
use Rattle.bound_specs.specs.Spec.{SpecFile}
use Rattle.machine_model.specs.World.{World}
use Rattle.events.specs.declared.event.Event.{Event}
use Rattle.session_machine.specs.Running.{Running}
use Rattle.known_worlds.specs.Known.{KnownRunning}
use Rattle.step_reducer.specs.declared.frame.Frame.{Frame}

-- the words that begin with the same letters, with which next letters the last one makes a swap, and the world behind these letters
pub record Framed : Type 0 where
  pub block : Block
  pub swaps : List Bool
  pub world : Running

-- the frame of the most letters, and those below it, the lowest first, with the outcomes that were told, and whether the machine stands in the world of
-- the most letters
pub record Stacked : Type 0 where
  pub below : List Framed
  pub top : Framed
  pub told : List (List (List Event))
  pub level : Bool

-- the world now, without those at marks
abbrev pub standing : KnownRunning → Running
standing r = record { file = r.file; world = r.world; spent = r.spent }

abbrev pub framed : Frame → Running → Framed
framed f r = record { block = f.block; swaps = f.swaps.items; world = r }

-- frames with the worlds at marks, of which none is spent
abbrev pub framed_each : SpecFile → List Frame → List World → List Framed
framed_each file [] ws = []
framed_each file (f ∷ fs) [] = []
framed_each file (f ∷ fs) (w ∷ ws) = framed f (record { file = file; world = w; spent = false }) ∷ framed_each file fs ws

-- the frames below stand at the marks, of which the newest is told first
abbrev pub stacked : List Frame → Frame → KnownRunning → Stacked
stacked fs f r = record { below = framed_each r.file fs (reverse r.marked); top = framed f (standing r); told = r.told; level = r.level }

-- there is a mark for each frame below
abbrev pub IsStacked : List Frame → KnownRunning → Type 0
IsStacked fs r = length fs ≡ length r.marked
