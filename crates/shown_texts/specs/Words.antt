-- Locks, waits and reasons in words.
use Rattle.std.specs.Prelude.{ℕ, Bool, false, ◌==◌, cond, List, [], ◌∷◌, ◌++◌, get_or, Option, Some, None, codes, flat_map}
use Rattle.lock_modes.specs.declared.mode.Mode.{Mode}
use Rattle.lock_modes.specs.declared.mode.Mode.TheVariants.{IntentShare, IntentExclusive, Share, ShareIntent, Exclusive}
use Rattle.lock_modes.specs.declared.resource.Resource.{Resource}
use Rattle.lock_modes.specs.declared.resource.Resource.TheVariants.{Table, Row}
use Rattle.std.specs.List.{join_by}
use Rattle.lock_modes.specs.Mode.{same_mode}
use Rattle.lock_modes.specs.declared.value.Value.{Value}
use Rattle.lock_queues.specs.declared.reason.Reason.{Reason}
use Rattle.lock_queues.specs.declared.reason.Reason.TheVariants.{Holds, Ahead}
use Rattle.lock_queues.specs.declared.reason.Edge.{Edge}
use Rattle.lock_queues.specs.declared.told.Hop.{Hop}
use Rattle.lock_queues.specs.Reasons.{Want}
use Rattle.transcripts.specs.Text.{value_text}
use Rattle.shown_texts.specs.Characters.{shown_text}

-- a single quote stands first
abbrev pub begins_quote : List ℕ → Bool
begins_quote [] = false
begins_quote (b ∷ bs) = b == 39

abbrev pub mode_text : Mode → List ℕ
mode_text IntentShare = codes "IS"
mode_text IntentExclusive = codes "IX"
mode_text Share = codes "S"
mode_text ShareIntent = codes "SIX"
mode_text Exclusive = codes "X"

abbrev pub values_text : List Value → List ℕ
values_text values = join_by value_text (codes "|") values

-- a table by its name, and a row by its table and its key
abbrev pub place_text : List (List ℕ) → Resource → List ℕ
place_text tables (Table n) = get_or tables n []
place_text tables (Row n key) = get_or tables n [] ++ (codes "[" ++ (shown_text (value_text key) ++ codes "]"))

abbrev pub mode_on_place : List (List ℕ) → Mode → Resource → List ℕ
mode_on_place tables mode place = codes "wants " ++ (mode_text mode ++ (codes " on " ++ place_text tables place))

-- what of a wanted mode is held already, and if it is another one what is asked for
abbrev pub held_text : Mode → Mode → Mode → List ℕ
held_text wanted asked has =
    cond (same_mode asked wanted) (codes ", has " ++ mode_text has) (codes ": has " ++ (mode_text has ++ (codes " and asks " ++ mode_text asked)))

abbrev pub had_text : Mode → Mode → Option Mode → List ℕ
had_text wanted asked None = []
had_text wanted asked (Some has) = held_text wanted asked has

abbrev pub want_text : List (List ℕ) → Want → List ℕ
want_text tables want = mode_on_place tables want.mode want.resource ++ had_text want.mode want.asked want.has

abbrev pub why_text : Reason → List ℕ
why_text (Holds mode) = codes " holds " ++ mode_text mode
why_text (Ahead mode) = codes " is ahead, for " ++ mode_text mode

-- whom a wait waits for, and why
abbrev pub reason_text : List (List ℕ) → Edge → List ℕ
reason_text names edge = get_or names edge.session [] ++ why_text edge.reason

-- what a session of a ring wants
abbrev pub hop_text : List (List ℕ) → List (List ℕ) → Hop → List ℕ
hop_text names tables hop = get_or names hop.session [] ++ (codes " " ++ (mode_on_place tables hop.mode hop.resource ++ codes ":"))

abbrev pub leading_on : List (List ℕ) → Hop → List ℕ
leading_on names hop = get_or names hop.session [] ++ codes " > "

-- the sessions of a ring, and the first one once more
abbrev pub ring_text : List (List ℕ) → ℕ → List Hop → List ℕ
ring_text names session hops = codes "ring " ++ (flat_map (leading_on names) hops ++ get_or names session [])
