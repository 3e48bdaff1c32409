-- The laws of moments.
use Rattle.std.specs.Prelude.{◌≡◌, ◌≢◌, ◌↔◌, ℕ, ◌<◌, true, ◌++◌, List, [], ◌∷◌, length, map, All, Some, None}
use Rattle.lock_queues.specs.Locks.{Spot, waits_now}
use Rattle.lock_queues.specs.declared.reason.Edge.{Edge}
use Rattle.lock_queues.specs.Reasons.{Want, Among, IsExact}
use Rattle.lock_queues.specs.declared.told.Hop.{Hop}
use Rattle.events.specs.declared.event.Event.TheVariants.{Failed}
use Rattle.events.specs.declared.event.Fault.TheVariants.{Deadlock, Unavailable}
use Rattle.bound_specs.specs.Spec.{Spec, SpecFile, Step, IsBound}
use Rattle.bound_specs.specs.Fits.{SpecFits}
use Rattle.binding_model.specs.declared.tables.Table.{Table}
use Rattle.binding_model.specs.Tables.{key_column}
use Rattle.machine_model.specs.Typed.{RowsFit}
use Rattle.machine_model.specs.Laws.{IsOf}
use Rattle.machine_model.specs.Start.{Started, start}
use Rattle.machine_model.specs.Sound.{Steady, Sound}
use Rattle.machine_model.specs.World.{World, look_of, session_at, send, send_all, outcome_of}
use Rattle.line_moments.specs.Moments.{Going, behind, line_goings, moments, line_moments, new_steps, told_to, told_by, Leads, moment_of, session_by}
use Rattle.line_moments.specs.declared.moment.Ending.TheVariants.{Awaits, Loses, Lacks}
use Rattle.line_moments.specs.Moments.{want_in}
use Rattle.line_moments.specs.declared.shown.Shown.{Shown}
use Rattle.line_moments.specs.declared.shown.Left.{Left}
use Rattle.line_moments.specs.Left.{left_in, LeaveSame, standings, shown, IsLeftIn, AreStanding, IsShown, IsShownOf}
use Rattle.line_moments.specs.declared.moment.Still.{Still}
use Rattle.line_moments.specs.Moments.{scene_by, IsLost, IsLacking, changes_to, changed, IsTrue, edges_in, KnowsSteps, IsOfStep, GoesOn}
use Rattle.line_moments.specs.declared.moment.Change.{Change}
use Rattle.line_moments.specs.Moments.{granted_by, going_by, tasks_by, AreAskedBy, step_by, step_after, sent_to, ended_last}

-- the moments of a line lead from its first world to its last, each when it is due and where the one before it left the world; and the steps that
-- come in them are those of the line, in its order
abbrev pub MomentsLead : Type 0
MomentsLead =
    (steps : List Step) (w : World) (ks : List ℕ) → Sound w → ((k : ℕ) → IsOf steps w k)
    → Leads steps w (line_goings steps w ks) (send_all steps w ks) × (new_steps (line_goings steps w ks) ≡ ks)

-- the moments of a line are those of its first step, and then those of the rest of it from the world behind that step
abbrev pub MomentsAreInTurn : Type 0
MomentsAreInTurn =
    (steps : List Step) (w : World)
    → (line_moments steps w [] ≡ [])
    × ((k : ℕ) (ks : List ℕ) → line_moments steps w (k ∷ ks) ≡ moments steps w k ++ line_moments steps (send steps w k) ks)

-- what each session is told in its moments, in their order, is what its transcript grows by
abbrev pub MomentsTell : Type 0
MomentsTell =
    (steps : List Step) (w : World) (ks : List ℕ) → Sound w → ((k : ℕ) → IsOf steps w k)
    → (c : ℕ) → (session_at (send_all steps w ks) c).transcript ≡ (session_at w c).transcript ++ told_to c (line_moments steps w ks)

-- from the start of a spec: what each session is told in its moments is the outcome of the line
abbrev pub MomentsAreOutcomes : Type 0
MomentsAreOutcomes =
    (spec : Spec) (w : World) (ks : List ℕ) → IsBound spec → start spec ≡ Started w
    → outcome_of spec.sessions (send_all spec.steps w ks) ≡ told_by spec.sessions (line_moments spec.steps w ks)

-- in a steady world, where waits may be ripe, something is told of whoever waits and of nobody else, and what is told is exact
abbrev pub WantsAreExact : Type 0
WantsAreExact =
    (w : World) → Steady w → (a : ℕ)
    → ((waits_now w.waits a ≡ true) ↔ ((want : Want) × (want_in w a ≡ Some want)))
    × ((want : Want) → want_in w a ≡ Some want → IsExact (look_of w) w.waits a want)

-- a moment of a line ends with a wait exactly where its session waits in the world behind it, and what is told of the wait is exact there
abbrev pub MomentsWait : Type 0
MomentsWait =
    (steps : List Step) (w : World) (ks : List ℕ) → Sound w → ((k : ℕ) → IsOf steps w k) → (g : Going) → Among g (line_goings steps w ks)
    → ((waits_now (behind steps g).waits (session_by steps g.cause) ≡ true) ↔ ((want : Want) × ((moment_of steps g).ending ≡ Awaits want)))
    × ((want : Want) → (moment_of steps g).ending ≡ Awaits want → IsExact (look_of (behind steps g)) (behind steps g).waits (session_by steps g.cause) want)

-- the locks that a moment of a line tells are those that its session asked for, and no others
abbrev pub LocksAreAsked : Type 0
LocksAreAsked =
    (steps : List Step) (w : World) (ks : List ℕ) → Sound w → ((k : ℕ) → IsOf steps w k) → (g : Going) → Among g (line_goings steps w ks)
    → AreAskedBy steps g.world g.cause

-- a moment of a line that ends with a deadlock tells a ring that the wait of a request would have closed, with what the session held then: behind the
-- lock of its granted wait it tells the locks up to that request
abbrev pub MomentsLose : Type 0
MomentsLose =
    (steps : List Step) (w : World) (ks : List ℕ) → Sound w → ((k : ℕ) → IsOf steps w k) → (g : Going) → Among g (line_goings steps w ks)
    → (hops : List Hop) → (moment_of steps g).ending ≡ Loses hops
    → (changes : List Change) × ((moment_of steps g).changes ≡ granted_by g.world g.cause ++ changes)
    × IsLost (scene_by g.world g.cause) (session_by steps g.cause) (going_by steps g.world g.cause) g.world.rows (tasks_by steps g.world g.cause) changes hops

-- a moment of a line that ends with a lack tells what a request wanted that refuses to wait, and why it could not be had, with what the session held then:
-- behind the lock of its granted wait it tells the locks up to that request
abbrev pub MomentsLack : Type 0
MomentsLack =
    (steps : List Step) (w : World) (ks : List ℕ) → Sound w → ((k : ℕ) → IsOf steps w k) → (g : Going) → Among g (line_goings steps w ks)
    → (want : Want) → (moment_of steps g).ending ≡ Lacks want
    → (changes : List Change) × ((moment_of steps g).changes ≡ granted_by g.world g.cause ++ changes)
    × IsLacking (scene_by g.world g.cause) (session_by steps g.cause) (going_by steps g.world g.cause) g.world.rows (tasks_by steps g.world g.cause) changes want

-- what each session holds, changed by what it got and let go in its moments, is what it holds behind them
abbrev pub MomentsHold : Type 0
MomentsHold =
    (steps : List Step) (w : World) (ks : List ℕ) → Sound w → ((k : ℕ) → IsOf steps w k)
    → (c : ℕ) → (session_at (send_all steps w ks) c).held ≡ changed (session_at w c).held (changes_to c (line_moments steps w ks))

-- each moment of a line is true of the world behind it
abbrev pub MomentsAreTrue : Type 0
MomentsAreTrue =
    (steps : List Step) (w : World) (ks : List ℕ) → Sound w → ((k : ℕ) → IsOf steps w k) → (g : Going) → Among g (line_goings steps w ks)
    → IsTrue steps g

-- a moment of a line tells a ring exactly where it tells of a deadlock
abbrev pub RingsAreTold : Type 0
RingsAreTold =
    (steps : List Step) (w : World) (ks : List ℕ) → Sound w → ((k : ℕ) → IsOf steps w k) → (g : Going) → Among g (line_goings steps w ks)
    → Among (Failed Deadlock) (moment_of steps g).events ↔ ((hops : List Hop) × ((moment_of steps g).ending ≡ Loses hops))

-- and a lack exactly where it tells that a lock was not available
abbrev pub LacksAreTold : Type 0
LacksAreTold =
    (steps : List Step) (w : World) (ks : List ℕ) → Sound w → ((k : ℕ) → IsOf steps w k) → (g : Going) → Among g (line_goings steps w ks)
    → Among (Failed Unavailable) (moment_of steps g).events ↔ ((want : Want) × ((moment_of steps g).ending ≡ Lacks want))

-- a moment tells of another session that it still waits, and for whom, exactly where it waits for somebody and for other reasons than before
abbrev pub StillIsExact : Type 0
StillIsExact =
    (steps : List Step) (g : Going) (c : ℕ) (es : List Edge)
    → Among {A = Still} (record { session = c; edges = es }) (moment_of steps g).still
    ↔ ((c < length (behind steps g).sessions) × (c ≢ session_by steps g.cause) × (es ≡ edges_in (behind steps g) c) × (es ≢ []) × (edges_in g.world c ≢ es))

-- the reasons that a moment of a line tells of another session are all those of its wait in the world behind the moment, and no others
abbrev pub StillWaitsAreExact : Type 0
StillWaitsAreExact =
    (steps : List Step) (w : World) (ks : List ℕ) → Sound w → ((k : ℕ) → IsOf steps w k) → (g : Going) → Among g (line_goings steps w ks)
    → (x : Still) → Among x (moment_of steps g).still
    → (want : Want) × IsExact (look_of (behind steps g)) (behind steps g).waits x.session want × (x.edges ≡ want.edges)

-- each moment of a line is of a step of its session, where that is so of whoever waits before it, as of nobody when a spec starts
abbrev pub MomentsAreOfSteps : Type 0
MomentsAreOfSteps =
    (steps : List Step) (w : World) (ks : List ℕ) → Sound w → ((k : ℕ) → IsOf steps w k) → All (λ k. k < length steps) ks → KnowsSteps steps w
    → ((g : Going) → Among g (line_goings steps w ks) → IsOfStep steps g) × KnowsSteps steps (send_all steps w ks)

-- each moment of a line of a spec is of a step of its session
abbrev pub SpecsMomentsAreOfSteps : Type 0
SpecsMomentsAreOfSteps =
    (spec : Spec) (w : World) (ks : List ℕ) → IsBound spec → start spec ≡ Started w → All (λ k. k < length spec.steps) ks
    → (g : Going) → Among g (line_goings spec.steps w ks) → IsOfStep spec.steps g

-- a moment is of the step that comes, or where its session goes on of the step that it was sent last
abbrev pub StepsAreTold : Type 0
StepsAreTold =
    (steps : List Step) (w : World) (ks : List ℕ) → Sound w → ((k : ℕ) → IsOf steps w k)
    → (before : List Going) (g : Going) (after : List Going) → line_goings steps w ks ≡ before ++ g ∷ after
    → (moment_of steps g).step ≡ step_after steps w before g.cause

-- in a line of a spec a session goes on where its last moment before ended with that wait, and with the step that was sent to it last in that line
abbrev pub WaitersGoOn : Type 0
WaitersGoOn =
    (spec : Spec) (w : World) (ks : List ℕ) → IsBound spec → start spec ≡ Started w
    → (before : List Going) (v : World) (spot : Spot) (after : List Going)
    → line_goings spec.steps w ks ≡ before ++ record { world = v; cause = GoesOn spot } ∷ after
    → (step_by v (GoesOn spot) ≡ sent_to spec.steps spot.wait.session None before)
    × ((want : Want) × (ended_last spec.steps spot.wait.session None before ≡ Some (Awaits want)) × (want.resource ≡ spot.wait.resource)
    × (want.asked ≡ spot.wait.mode))

-- in a steady world each session stands as is told
abbrev pub StandingsAreExact : Type 0
StandingsAreExact = (n : ℕ) (w : World) → Steady w → AreStanding n w (standings n w)

-- of a world whose rows fit the tables the committed rows of each table are told, and no others
abbrev pub LeftIsExact : Type 0
LeftIsExact = (tables : List Table) (w : World) → RowsFit tables w.rows → IsLeftIn tables w (left_in tables w)

-- where every table has a key, worlds that leave the same rows, whatever their keys, have the same committed rows
abbrev pub KeysTellRows : Type 0
KeysTellRows =
    (tables : List Table) (v w : World) → RowsFit tables v.rows → RowsFit tables w.rows → All (λ t. (key : ℕ) × (key_column t ≡ Some key)) tables
    → LeaveSame (left_in tables v) (left_in tables w) → v.rows ≡ w.rows

-- where the statements of a spec fit the tables something is shown of a line exactly where the spec starts, and what is shown is true of the worlds that
-- the line begins with and ends in
abbrev pub ShownIsTrue : Type 0
ShownIsTrue =
    (tables : List Table) (spec : Spec) (line : List ℕ) → IsBound spec → SpecFits tables spec
    → (((x : Shown) × (shown tables spec line ≡ Some x)) ↔ ((w : World) × (start spec ≡ Started w)))
    × ((x : Shown) → shown tables spec line ≡ Some x → IsShown tables spec line x)

-- of a line of a spec file, whose statements fit the tables that its main setups declare, there is shown what is left of each of these, in their order
abbrev pub FilesAreShown : Type 0
FilesAreShown =
    (text : List ℕ) (file : SpecFile) (line : List ℕ) (x : Shown) → (of : IsShownOf text file line x) → IsBound file.run → SpecFits of.tables file.run
    → IsShown of.tables file.run line x × (map (λ (l : Left). l.table) x.first ≡ of.tables) × (map (λ (l : Left). l.table) x.left ≡ of.tables)
