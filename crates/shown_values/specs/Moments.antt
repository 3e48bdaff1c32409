-- The JSON of moments: where these are the tables with their names, and the names of the steps.
use Rattle.std.specs.Prelude.{ℕ, List, [], ◌∷◌, ◌++◌, Option, Some, None, codes, decimal}
use Rattle.lock_modes.specs.declared.mode.Mode.{Mode}
use Rattle.lock_modes.specs.declared.resource.Resource.{Resource}
use Rattle.lock_queues.specs.declared.reason.Reason.{Reason}
use Rattle.lock_queues.specs.declared.reason.Reason.TheVariants.{Holds, Ahead}
use Rattle.lock_queues.specs.declared.reason.Edge.{Edge}
use Rattle.lock_queues.specs.declared.told.Hop.{Hop}
use Rattle.lock_queues.specs.Reasons.{Want}
use Rattle.line_moments.specs.declared.moment.Change.{Change}
use Rattle.line_moments.specs.declared.moment.Change.TheVariants.{Had, LetGo}
use Rattle.line_moments.specs.declared.moment.Ending.{Ending}
use Rattle.line_moments.specs.declared.moment.Ending.TheVariants.{Ended, Awaits, Loses, Lacks}
use Rattle.line_moments.specs.declared.moment.Still.{Still}
use Rattle.line_moments.specs.declared.moment.Moment.{Moment}
use Rattle.line_moments.specs.declared.stale.Stale.{Stale}
use Rattle.line_moments.specs.declared.shown.Left.{Left}
use Rattle.shown_values.specs.Strings.{array_json}
use Rattle.shown_values.specs.Words.{line_json, manner_json, mode_json, number_json, resource_json, status_json, told}

-- why a session is in the way, behind its number
abbrev pub reason_json : Reason → List ℕ
reason_json (Holds mode) = codes ",\"holds\"," ++ mode_json mode
reason_json (Ahead mode) = codes ",\"ahead\"," ++ mode_json mode

abbrev pub edge_json : Edge → List ℕ
edge_json edge = codes "[" ++ decimal edge.session ++ reason_json edge.reason ++ codes "]"

-- what is held already, and what is asked for beside it
abbrev pub has_json : Option Mode → Mode → List ℕ
has_json None asked = []
has_json (Some mode) asked = (codes ",\"has\":" ++ mode_json mode) ++ (codes ",\"asks\":" ++ mode_json asked)

abbrev pub want_json : List Left → Want → List ℕ
want_json tables want =
    (codes "{\"on\":" ++ resource_json tables want.resource) ++ (codes ",\"wants\":" ++ mode_json want.mode)
    ++ has_json want.has want.asked ++ (codes ",\"for\":" ++ array_json edge_json want.edges) ++ codes "}"

abbrev pub hop_json : List Left → Hop → List ℕ
hop_json tables hop =
    codes "[" ++ decimal hop.session ++ codes "," ++ mode_json hop.mode ++ codes "," ++ resource_json tables hop.resource
    ++ codes "," ++ edge_json hop.edge ++ codes "]"

abbrev pub lock_json : List Left → Resource × Mode → List ℕ
lock_json tables lock = codes "[" ++ resource_json tables lock.0 ++ codes "," ++ mode_json lock.1 ++ codes "]"

abbrev pub change_json : List Left → Change → List ℕ
change_json tables (Had resource mode) = lock_json tables (resource, mode)
change_json tables LetGo = codes "null"

abbrev pub still_json : Still → List ℕ
still_json still = codes "[" ++ decimal still.session ++ codes "," ++ array_json edge_json still.edges ++ codes "]"

-- a read that is stale: who read, in which step, what it was told and what it would be told now
abbrev pub stale_json : List (List ℕ) → Stale → List ℕ
stale_json steps stale =
    codes "[" ++ decimal stale.session ++ codes "," ++ decimal stale.step
    ++ (codes "," ++ array_json (line_json steps) stale.told) ++ (codes "," ++ array_json (line_json steps) stale.told_now) ++ codes "]"

-- the reads that are stale, as a member, where there are any
abbrev pub stales_json : List (List ℕ) → List Stale → List ℕ
stales_json steps [] = []
stales_json steps (s ∷ ss) = codes ",\"stale\":" ++ array_json (stale_json steps) (s ∷ ss)

-- what is told of a wait, a deadlock or a lack, as a member
abbrev pub ending_json : List Left → Ending → List ℕ
ending_json tables Ended = []
ending_json tables (Awaits want) = codes ",\"want\":" ++ want_json tables want
ending_json tables (Loses ring) = codes ",\"ring\":" ++ array_json (hop_json tables) ring
ending_json tables (Lacks want) = codes ",\"lacks\":" ++ want_json tables want

-- who goes, why, and with which step
abbrev pub going_json : Moment → List ℕ
going_json moment =
    (codes "{\"session\":" ++ decimal moment.session) ++ (codes ",\"kind\":" ++ manner_json moment.manner)
    ++ (codes ",\"step\":" ++ number_json moment.step)

-- how it ends
abbrev pub end_json : List Left → List (List ℕ) → Moment → List ℕ
end_json tables steps moment =
    (codes ",\"status\":" ++ status_json moment.status) ++ ending_json tables moment.ending
    ++ (codes ",\"still\":" ++ array_json still_json moment.still) ++ stales_json steps moment.stale ++ codes "}"

abbrev pub moment_json : List Left → List (List ℕ) → Moment → List ℕ
moment_json tables steps moment =
    going_json moment ++ (codes ",\"told\":" ++ array_json (line_json steps) (told moment.events))
    ++ (codes ",\"locks\":" ++ array_json (change_json tables) moment.changes) ++ end_json tables steps moment
