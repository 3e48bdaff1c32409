-- Worked schedules, computed.
use Rattle.std.proofs.Common.{◌≡◌, refl, ℕ, zero, suc, ◌||◌, Bool, true, false, cond, List, [], ◌∷◌, ◌++◌, map}
use Rattle.finite_maps.specs.Map.{get, insert, keep, remove, entries, empty}
use Rattle.statement_evaluation.specs.Effect.{effect}
use Rattle.row_tables.specs.Overlay.{lay}
use Rattle.bound_statements.specs.declared.statement.Bound.TheVariants.{Commit}
use Rattle.perm_ranks.specs.Words.{Word}
use Rattle.bound_specs.specs.Spec.{Spec, line, queues_of}
use Rattle.machine_model.specs.Start.{Started, start}
use Rattle.machine_model.specs.World.{World, send}
use Rattle.machine_model.proofs.Worked.{adds, in_blocks, step, waits_row}
use Rattle.world_graph.specs.Worlds.{rank}
use Rattle.spec_schedules.specs.declared.kind.Kind.{Kind}
use Rattle.spec_schedules.specs.declared.kind.Kind.TheVariants.{Schedules, Permutations}
use Rattle.spec_schedules.specs.Schedules.{session_of, own_steps, may_come, permutations, permutation_of}
use Rattle.spec_schedules.specs.Points.{Point, point_rules, start_point}

-- whether each step may come where it does
abbrev come : Kind → Spec → World → List ℕ → List Bool
come kind spec w [] = []
come kind spec w (k ∷ ks) = may_come kind w (session_of spec.steps k) ∷ come kind spec (send spec.steps w k) ks

abbrev each_comes : Kind → Spec → List ℕ → List Bool
each_comes kind spec ks = elim (start spec) [ Started w ↦ come kind spec w ks | _ ↦ [] ]

-- the maximal words of two sessions, of so many letters at most
abbrev words_from : ℕ → Point → List Word
words_from zero p = [] ∷ []
words_from (suc n) p =
    cond (point_rules.can p 0 || point_rules.can p 1)
    (cond (point_rules.can p 0) (map (λ s. 0 ∷ s) (words_from n (point_rules.next p 0))) [] ++ cond (point_rules.can p 1) (map (λ s. 1 ∷ s) (words_from n (point_rules.next p 1))) [])
    ([] ∷ [])

-- their steps, and their ranks
abbrev orders : Kind → Spec → List (List ℕ)
orders kind spec = elim (start spec) [ Started w ↦ map (line (queues_of spec)) (words_from 4 (start_point kind spec w)) | _ ↦ [] ]

abbrev first_ranks : Kind → Spec → List ℕ
first_ranks kind spec = elim (start spec) [ Started w ↦ map (rank point_rules (start_point kind spec w)) (words_from 4 (start_point kind spec w)) | _ ↦ [] ]

-- ---- two sessions of two steps, each an update of one row and a commit

four_steps : permutations (queues_of waits_row) ≡ 6
four_steps = refl

third_permutation : permutation_of (queues_of waits_row) 2 ≡ 0 ∷ 2 ∷ 3 ∷ 1 ∷ []
third_permutation = refl

steps_of_the_second : own_steps waits_row.steps 1 (0 ∷ 2 ∷ 3 ∷ 1 ∷ []) ≡ 2 ∷ 3 ∷ []
steps_of_the_second = refl

-- the commit of a session that waits is dropped
one_is_dropped : each_comes Schedules waits_row (0 ∷ 2 ∷ 3 ∷ 1 ∷ []) ≡ true ∷ true ∷ false ∷ true ∷ []
unfolding get insert keep remove entries empty effect lay
one_is_dropped = refl

none_is_dropped : each_comes Schedules waits_row (0 ∷ 2 ∷ 1 ∷ 3 ∷ []) ≡ true ∷ true ∷ true ∷ true ∷ []
unfolding get insert keep remove entries empty effect lay
none_is_dropped = refl

all_permutations : orders Permutations waits_row ≡ (0 ∷ 1 ∷ 2 ∷ 3 ∷ []) ∷ (0 ∷ 2 ∷ 1 ∷ 3 ∷ []) ∷ (0 ∷ 2 ∷ 3 ∷ 1 ∷ []) ∷ (2 ∷ 0 ∷ 1 ∷ 3 ∷ []) ∷ (2 ∷ 0 ∷ 3 ∷ 1 ∷ []) ∷ (2 ∷ 3 ∷ 0 ∷ 1 ∷ []) ∷ []
unfolding get insert keep remove entries empty effect lay
all_permutations = refl

all_ranks : first_ranks Permutations waits_row ≡ 0 ∷ 1 ∷ 2 ∷ 3 ∷ 4 ∷ 5 ∷ []
unfolding get insert keep remove entries empty effect lay
all_ranks = refl

-- of the six two can't be sent, since a step comes while its session waits
four_schedules : orders Schedules waits_row ≡ (0 ∷ 1 ∷ 2 ∷ 3 ∷ []) ∷ (0 ∷ 2 ∷ 1 ∷ 3 ∷ []) ∷ (2 ∷ 0 ∷ 3 ∷ 1 ∷ []) ∷ (2 ∷ 3 ∷ 0 ∷ 1 ∷ []) ∷ []
unfolding get insert keep remove entries empty effect lay
four_schedules = refl

four_ranks : first_ranks Schedules waits_row ≡ 0 ∷ 1 ∷ 4 ∷ 5 ∷ []
unfolding get insert keep remove entries empty effect lay
four_ranks = refl

-- ---- a session that keeps its lock: who comes second waits for ever, and its commit can't be sent

abbrev stuck_row : Spec
stuck_row = in_blocks 2 (step 0 (adds 1 1) ∷ step 1 (adds 1 10) ∷ step 1 Commit ∷ [])

stuck_schedules : orders Schedules stuck_row ≡ (0 ∷ 1 ∷ []) ∷ (1 ∷ 0 ∷ 2 ∷ []) ∷ (1 ∷ 2 ∷ 0 ∷ []) ∷ []
unfolding get insert keep remove entries empty effect lay
stuck_schedules = refl

-- the first has the rank of the permutation 0 ∷ 1 ∷ 2 ∷ [], which begins with it
stuck_ranks : first_ranks Schedules stuck_row ≡ 0 ∷ 1 ∷ 2 ∷ []
unfolding get insert keep remove entries empty effect lay
stuck_ranks = refl
