-- The laws of quiet steps, of swaps and of what is true of ranks.
use Rattle.std.specs.Prelude.{◌≡◌, ◌≢◌, ◌↔◌, ℕ, ◌<◌, Bool, true, ◌++◌, List, [], get_or, Some}
use Rattle.bound_specs.specs.Spec.{Spec, Step, no_step, Queues, queues_of, line, line_of, ranks, IsBound}
use Rattle.machine_model.specs.World.{World, send, send_all, session_at, scene_of}
use Rattle.machine_model.specs.Session.{Session, Task, tasks_of}
use Rattle.lock_modes.specs.RowPlace.{RowPlace}
use Rattle.lock_modes.specs.Rows.{Rows'}
use Rattle.machine_model.specs.Footprint.{AllHad}
use Rattle.rank_facts.specs.Footprint.{Leads, Footprint, FootprintUntil}
use Rattle.bound_statements.specs.declared.statement.Bound.{Bound}
use Rattle.rank_facts.specs.Quiet.{is_quiet, SentCalmly}
use Rattle.machine_model.specs.Sound.{Sound}
use Rattle.perm_ranks.specs.Words.{Word}
use Rattle.perm_ranks.specs.Swapped.{exchanged}
use Rattle.rank_facts.specs.Swap.{quiet_at, falls_at, falls_in, leads_in, word_of, are_quiet_at}
use Rattle.rank_facts.specs.Facts.{IsTrueAt, IsFactOf, fact_of}
use Rattle.rank_facts.specs.Values.{Facts, AllTrue, TellTheMachine}
use Rattle.rank_facts.specs.declared.fact.Fact.{Fact}
use Rattle.rank_facts.specs.declared.fact.Fact.TheVariants.{Ran, Swap}
use Rattle.machine_model.specs.Outcome.{outcome_of_line}
use Rattle.bound_statements.specs.Plan.{plan, opened, looks_at}
use Rattle.events.specs.declared.event.Event.{Event}
use Rattle.machine_model.specs.Laws.{IsOf}

abbrev pub QuietStepsCommute : Type 0
QuietStepsCommute =
    (steps : List Step) (w : World) (k l : ℕ) → Sound w → IsOf steps w k → IsOf steps w l → is_quiet w (get_or steps k no_step) (get_or steps l no_step) ≡ true
    → send steps (send steps w k) l ≡ send steps (send steps w l) k

abbrev pub SwapKeepsWorlds : Type 0
SwapKeepsWorlds =
    (steps : List Step) (w : World) (q : Queues) (k : ℕ) (word other : Word) → Sound w → ((n : ℕ) → IsOf steps w n) → exchanged k word ≡ Some other
    → quiet_at steps w q k word ≡ true
    → send_all steps w (line q word) ≡ send_all steps w (line q other)

abbrev pub ChainsEnd : Type 0
ChainsEnd = (k : ℕ) (word other : Word) → exchanged k word ≡ Some other → falls_in other < falls_in word

-- of quiet steps either may be called the first
abbrev pub QuietIsMutual : Type 0
QuietIsMutual = (w : World) (s t : Step) → is_quiet w s t ≡ is_quiet w t s

-- where the letters of a word fall, they are exchanged by the steps of its line: the world after k letters is the world after k steps
abbrev pub LettersAreSteps : Type 0
LettersAreSteps =
    (spec : Spec) (w : World) (r k : ℕ) → spec.lines ≡ [] → falls_at k (word_of spec r) ≡ true
    → quiet_at spec.steps w (queues_of spec) k (word_of spec r) ≡ are_quiet_at spec w r k

-- an exchange leads exactly to the rank whose word it gives, started or not; between given lines it leads nowhere
abbrev pub LeadsAreExchanges : Type 0
LeadsAreExchanges =
    (spec : Spec) (r k below : ℕ)
    → (leads_in spec r k ≡ Some below) ↔ ((spec.lines ≡ []) × (below < ranks spec) × (exchanged k (word_of spec r) ≡ Some (word_of spec below)))

-- wherever an exchange leads there is a smaller rank
abbrev pub SwapsLeadDown : Type 0
SwapsLeadDown = (spec : Spec) (r k below : ℕ) → leads_in spec r k ≡ Some below → below < r

-- a true swap of a spec leads to a smaller rank with the same outcome
abbrev pub SwapsHold : Type 0
SwapsHold =
    (spec : Spec) (r k : ℕ) → IsBound spec → IsTrueAt spec r (Swap k)
    → (below : ℕ) × (leads_in spec r k ≡ Some below) × (below < r) × (outcome_of_line spec (line_of spec below) ≡ outcome_of_line spec (line_of spec r))

-- true facts of a spec tell what the sequential machine tells
abbrev pub Headline : Type 0
Headline = (spec : Spec) → IsBound spec → (has : Facts) → AllTrue spec has → TellTheMachine spec has

-- what quiet steps note, the first alone and both, tells of no wait; the waits and all other sessions stay as they are
abbrev pub QuietStepsAreCalm : Type 0
QuietStepsAreCalm =
    (steps : List Step) (w : World) (k l : ℕ) → Sound w → IsOf steps w k → IsOf steps w l → is_quiet w (get_or steps k no_step) (get_or steps l no_step) ≡ true
    → let i = (get_or steps k no_step).session in
    let j = (get_or steps l no_step).session in
    let one = send steps w k in
    let both = send steps (send steps w k) l in
    (SentCalmly w one i k × (one.waits ≡ w.waits) × ((c : ℕ) → c ≢ i → session_at one c ≡ session_at w c))
    × (SentCalmly w both i k × SentCalmly w both j l × (both.waits ≡ w.waits) × ((c : ℕ) → c ≢ i → c ≢ j → session_at both c ≡ session_at w c))

-- the computed fact of a rank is the one fact that it has
abbrev pub FactsAreOne : Type 0
FactsAreOne = (reduce : Bool) (spec : Spec) (r : ℕ) (fact : Fact) → (fact_of reduce spec r ≡ Some fact) ↔ IsFactOf reduce spec r fact

-- of a spec with lines each fact is an outcome
abbrev pub LinesRun : Type 0
LinesRun = (reduce : Bool) (spec : Spec) (r : ℕ) (fact : Fact) → spec.lines ≢ [] → IsFactOf reduce spec r fact
    → (outcome : List (List Event)) × (fact ≡ Ran outcome)

-- the footprint of a step whose requests are all had
abbrev pub StepsHaveFootprints : Type 0
StepsHaveFootprints = (w : World) (i : ℕ) (ss : List Bound) → Sound w → AllHad (scene_of w) i (session_at w i) w.rows (tasks_of (session_at w i).status ss) → Footprint w i ss

-- the footprint of a step up to a request that may not be had
abbrev pub StepsHaveFootprintsUntil : Type 0
StepsHaveFootprintsUntil =
    (w : World) (i : ℕ) (ss : List Bound) (ts us : List Task) (t : Session) (rows : Rows') → Sound w → tasks_of (session_at w i).status ss ≡ ts ++ us
    → AllHad (scene_of w) i (session_at w i) w.rows ts → Leads (session_at w i) w.rows ts t rows → FootprintUntil w i ts us t rows

-- the plan of a statement opens every row that the statement looks at
abbrev pub PlansOpen : Type 0
PlansOpen = (st : Bound) (p : RowPlace) → looks_at st p ≡ true → opened (plan st) p ≡ true
