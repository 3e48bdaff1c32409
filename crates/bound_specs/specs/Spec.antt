-- A spec as the machine runs it: steps, setups and lines, and the line of each rank.
use Rattle.std.specs.Prelude.{ℕ, zero, suc, ◌==◌, List, [], ◌∷◌, length, map, set, get_or, ◌<◌, ◌≤◌, cond, All, ◌≡◌, Option}
use Rattle.perm_ranks.specs.declared.TheConstants.{MAX_SESSIONS, MAX_STEPS}
use Rattle.perm_ranks.specs.Words.{Word, all_words, word_at}
use Rattle.spec_reader.specs.declared.TheConstants.{MAX_ITEMS, MAX_LINES}
use Rattle.bound_statements.specs.declared.statement.Bound.{Bound}
use Rattle.bound_statements.specs.declared.statement.Level.{Level}
use Rattle.bound_statements.specs.Plan.{HasKeys, IsShort}
use Rattle.bound_specs.specs.declared.TheConstants.{MAX_LINED_STEPS}

-- a step of the file
pub record Step : Type 0 where
  pub session : ℕ
  pub statements : List Bound

abbrev pub no_step : Step
no_step = record { session = 0; statements = [] }

-- `lines` are the lines of step numbers that the spec itself gives, or none where it means all words
pub record Spec : Type 0 where
  pub sessions : ℕ
  pub steps : List Step
  pub setups : List (List Bound)
  pub session_setups : List (List Bound)
  pub lines : List (List ℕ)

-- what is still to be sent: for each session its step numbers, in order
abbrev pub Queues : Type 0
Queues = List (List ℕ)

-- each letter i takes the next step of session i
abbrev pub line : Queues → Word → List ℕ
line q [] = []
line q (i ∷ word) = elim (get_or q i []) [ [] ↦ line q word | k ∷ ks ↦ k ∷ line (set q i ks) word ]

-- how many steps each session has
abbrev pub counts_of : Queues → List ℕ
counts_of q = map (λ (ks : List ℕ). length ks) q

-- the numbers of the session's steps, counted from k on
abbrev pub steps_of : ℕ → ℕ → List Step → List ℕ
steps_of i k [] = []
steps_of i k (s ∷ ss) = cond (s.session == i) (k ∷ steps_of i (suc k) ss) (steps_of i (suc k) ss)

-- of so many sessions from i on
abbrev pub queues_from : ℕ → ℕ → List Step → Queues
queues_from i zero steps = []
queues_from i (suc n) steps = steps_of i 0 steps ∷ queues_from (suc i) n steps

abbrev pub queues_of : Spec → Queues
queues_of spec = queues_from 0 spec.sessions spec.steps

-- a spec with lines has these alone; another has a line for each word
abbrev pub ranks_by : List (List ℕ) → Queues → ℕ
ranks_by [] q = length (all_words (counts_of q))
ranks_by (l ∷ ls) q = length (l ∷ ls)

abbrev pub line_by : List (List ℕ) → Queues → ℕ → List ℕ
line_by [] q r = line q (word_at (counts_of q) r)
line_by (l ∷ ls) q r = get_or (l ∷ ls) r []

-- how many ranks the spec has, and the line of a rank
abbrev pub ranks : Spec → ℕ
ranks spec = ranks_by spec.lines (queues_of spec)

abbrev pub line_of : Spec → ℕ → List ℕ
line_of spec r = line_by spec.lines (queues_of spec) r

-- what binding gives: each step's session is one of the spec, and at most one session setup comes for each
abbrev pub EachStep : (Step → Type 0) → List Step → Type 0
EachStep P [] = Unit {0}
EachStep P (s ∷ ss) = P s × EachStep P ss

pub record IsBound (spec : Spec) : Type 0 where
  pub session_setups : length spec.session_setups ≤ spec.sessions
  pub steps : EachStep (λ s. s.session < spec.sessions) spec.steps

-- a spec with its text and its names. `asked` is the level that is asked for where a transaction names none, or none where levels are not asked for
pub record SpecFile : Type 0 where
  pub text : List ℕ
  pub session_names : List (List ℕ)
  pub step_names : List (List ℕ)
  pub asked : Option Level
  pub run : Spec

-- each new row of a table with a key has its key
abbrev pub AllHaveKeys : List (List Bound) → Type 0
AllHaveKeys blocks = All (λ (statements : List Bound). All HasKeys statements) blocks

-- no statement asks for more than a byte can count
abbrev pub AllAreShort : List (List Bound) → Type 0
AllAreShort blocks = All (λ (statements : List Bound). All IsShort statements) blocks

-- how many steps a spec may have, by its lines
abbrev pub step_limit : List (List ℕ) → ℕ
step_limit [] = MAX_STEPS
step_limit (l ∷ ls) = MAX_LINED_STEPS

-- a line of one step or more, of no more than a line has items
pub record IsLine (steps : ℕ) (line : List ℕ) : Type 0 where
  pub some : 1 ≤ length line
  pub few : length line ≤ MAX_ITEMS
  pub known : All (λ k. k < steps) line

-- a step of one of so many sessions, whose new rows have their keys, with statements that ask for no more than a byte can count
pub record IsStep (sessions : ℕ) (step : Step) : Type 0 where
  pub session : step.session < sessions
  pub keys : All HasKeys step.statements
  pub short : All IsShort step.statements

-- what every spec keeps
pub record IsReady (file : SpecFile) : Type 0 where
  pub few_sessions : file.run.sessions ≤ MAX_SESSIONS
  pub few_steps : length file.run.steps ≤ step_limit file.run.lines
  pub few_lines : length file.run.lines ≤ MAX_LINES
  pub session_names : length file.session_names ≡ file.run.sessions
  pub step_names : length file.step_names ≡ length file.run.steps
  pub session_setups : length file.run.session_setups ≡ file.run.sessions
  pub steps : All (IsStep file.run.sessions) file.run.steps
  pub setups_keys : AllHaveKeys file.run.setups
  pub setups_short : AllAreShort file.run.setups
  pub session_setups_keys : AllHaveKeys file.run.session_setups
  pub session_setups_short : AllAreShort file.run.session_setups
  pub lines : All (IsLine (length file.run.steps)) file.run.lines
