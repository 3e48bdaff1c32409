-- Worked swaps and facts, computed.
use Rattle.std.proofs.Common.{zero, suc, Bool, Option, ◌≡◌, refl, ℕ, List, [], ◌∷◌, Some, None, map, true, false}
use Rattle.finite_maps.specs.Map.{get, insert, keep, remove, entries, empty}
use Rattle.statement_evaluation.specs.Effect.{effect}
use Rattle.row_tables.specs.Overlay.{lay}
use Rattle.bound_specs.specs.Spec.{Spec, Queues, queues_of, ranks, line_of, counts_of}
use Rattle.machine_model.specs.Start.{Started, start}
use Rattle.machine_model.specs.World.{World}
use Rattle.perm_ranks.specs.Words.{all_words}
use Rattle.events.specs.declared.event.Event.{Event}
use Rattle.bound_statements.specs.declared.statement.Output.TheVariants.{Columns}
use Rattle.bound_statements.specs.declared.statement.Bound.TheVariants.{Select, Insert, Delete}
use Rattle.machine_model.proofs.Worked.{number, id_is, step, two_rows, waits_row, waiters_row, shares}
use Rattle.rank_facts.specs.Swap.{quiet_at, leads_in}
use Rattle.rank_facts.specs.Facts.{least_swap, fact_of}
use Rattle.rank_facts.specs.Values.{Facts, IsValue, ran, swap}
use Rattle.rank_facts.specs.declared.fact.Fact.TheVariants.{Ran, Swap}

-- the least swap of each of so many ranks
abbrev swaps_from : Spec → World → ℕ → ℕ → List (Option ℕ)
swaps_from spec w r zero = []
swaps_from spec w r (suc more) = least_swap spec w r ∷ swaps_from spec w (suc r) more

abbrev least_swaps : Spec → ℕ → List (Option ℕ)
least_swaps spec count = elim (start spec) [ Started w ↦ swaps_from spec w 0 count | _ ↦ [] ]

abbrev apart_row : Spec
apart_row =
    record {
      sessions = 2;
      steps = step 0 (Insert 0 (Some 0) ((number 2 ∷ []) ∷ [])) ∷ step 0 (Delete 0 (Some (number 2)) (id_is 2)) ∷ step 1
          (Insert 1 (Some 0) ((number 2 ∷ []) ∷ [])) ∷ step 1 (Delete 1 (Some (number 2)) (id_is 2)) ∷ [];
      setups = [];
      lines = [];
      session_setups = [] ∷ [] ∷ [];
    }

abbrev two_two : Queues
two_two = (0 ∷ 1 ∷ []) ∷ (2 ∷ 3 ∷ []) ∷ []

words_row : all_words (counts_of two_two) ≡ (0 ∷ 0 ∷ 1 ∷ 1 ∷ []) ∷ (0 ∷ 1 ∷ 0 ∷ 1 ∷ []) ∷ (0 ∷ 1 ∷ 1 ∷ 0 ∷ []) ∷ (1 ∷ 0 ∷ 0 ∷ 1 ∷ []) ∷
    (1 ∷ 0 ∷ 1 ∷ 0 ∷ []) ∷ (1 ∷ 1 ∷ 0 ∷ 0 ∷ []) ∷ []
words_row = refl

-- steps on two tables are quiet
apart_row_is : least_swaps apart_row 6 ≡ None ∷ Some 1 ∷ Some 2 ∷ Some 0 ∷ Some 0 ∷ Some 1 ∷ []
unfolding get insert keep remove entries empty effect lay
apart_row_is = refl

-- the queues, facts, ranks and lines of a spec, and of one with lines
apart_queues : queues_of apart_row ≡ two_two
apart_queues = refl

apart_facts : map (λ r. fact_of true apart_row r) (1 ∷ 2 ∷ 3 ∷ 4 ∷ 5 ∷ []) ≡ Some (Swap 1) ∷ Some (Swap 2) ∷ Some (Swap 0) ∷ Some (Swap 0) ∷ Some (Swap 1) ∷ []
unfolding get insert keep remove entries empty effect lay
apart_facts = refl

abbrev with_lines : Spec
with_lines = record apart_row { lines = (2 ∷ 3 ∷ 0 ∷ 1 ∷ []) ∷ (0 ∷ 1 ∷ []) ∷ [] }

with_lines_ranks : map (λ (spec : Spec). ranks spec) (apart_row ∷ with_lines ∷ []) ≡ 6 ∷ 2 ∷ []
with_lines_ranks = refl

with_lines_line : line_of with_lines 1 ≡ 0 ∷ 1 ∷ []
with_lines_line = refl

-- steps that write one row in blocks are not quiet
waits_row_swaps : least_swaps waits_row 6 ≡ None ∷ None ∷ None ∷ None ∷ None ∷ None ∷ []
unfolding get insert keep remove entries empty effect lay
waits_row_swaps = refl

abbrev quiet_places : Spec → Queues → List (ℕ × List ℕ) → List Bool
quiet_places spec q places = elim (start spec) [ Started w ↦ map (λ (p : ℕ × List ℕ). quiet_at spec.steps w q p.0 p.1) places | _ ↦ [] ]

-- a step that asks beside what the other holds, and steps on a table where somebody waits, are not quiet
waiters_row_swaps : quiet_places waiters_row ((0 ∷ 1 ∷ []) ∷ (2 ∷ 3 ∷ []) ∷ (4 ∷ []) ∷ [])
    ((2, 0 ∷ 1 ∷ 2 ∷ 0 ∷ 1 ∷ []) ∷ (2, 0 ∷ 1 ∷ 2 ∷ 1 ∷ 0 ∷ []) ∷ (3, 0 ∷ 1 ∷ 2 ∷ 1 ∷ 0 ∷ []) ∷ []) ≡ false ∷ false ∷ false ∷ []
unfolding get insert keep remove entries empty effect lay
waiters_row_swaps = refl

-- an insert of a key beside a select of it is not quiet, whichever stands first
abbrev select_row : Spec
select_row = record {
  sessions = 2;
  steps = step 0 (Insert 0 (Some 0) ((number 3 ∷ number 30 ∷ []) ∷ [])) ∷ step 1
      (Select 0 (Some (number 3)) (id_is 3) [] (Columns (1 ∷ [])) shares) ∷ [];
  setups = two_rows ∷ [];
  lines = [];
  session_setups = [] ∷ [] ∷ [];
}

select_row_swaps : quiet_places select_row ((0 ∷ []) ∷ (1 ∷ []) ∷ []) ((0, 1 ∷ 0 ∷ []) ∷ []) ≡ false ∷ []
unfolding get insert keep remove entries empty effect lay
select_row_swaps = refl

-- a spec that does not start: its main setup adds a row twice
abbrev refused_row : Spec
refused_row = record {
  sessions = 2;
  steps = record { session = 0; statements = [] } ∷ record { session = 1; statements = [] } ∷ [];
  setups =
      (Insert 0 (Some 0) ((number 1 ∷ []) ∷ (number 1 ∷ []) ∷ []) ∷ []) ∷ [];
  lines = [];
  session_setups = [] ∷ [] ∷ [];
}

-- its exchanges lead where they lead in any spec, and no rank has a fact
refused_row_leads : leads_in refused_row 1 0 ≡ Some 0
refused_row_leads = refl

refused_row_facts : map (λ r. fact_of true refused_row r) (0 ∷ 1 ∷ []) ≡ None ∷ None ∷ []
unfolding get insert keep remove entries empty effect lay
refused_row_facts = refl

-- a book of it that claims an outcome at rank 0 and an exchange at rank 1 has that outcome at both
module _ (has : Facts) (o : List (List Event)) (first : has 0 (Ran o) ≡ true) (second : has 1 (Swap 0) ≡ true) where
  refused_row_values : IsValue has (leads_in refused_row) 0 o × IsValue has (leads_in refused_row) 1 o
  refused_row_values = (ran first, swap second refl (ran first))
