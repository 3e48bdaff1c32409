-- What is true of the ranks of a spec, and the fact of a rank.
use Rattle.std.specs.Prelude.{◌≡◌, ℕ, zero, suc, ◌<◌, Bool, true, false, cond, ◌&&◌, nat_lt, List, [], ◌∷◌, length, Option, Some, None}
use Rattle.bound_specs.specs.Spec.{Spec, line_of, ranks}
use Rattle.machine_model.specs.World.{World, send_all, outcome_of}
use Rattle.machine_model.specs.Start.{Started, start}
use Rattle.machine_model.specs.Outcome.{outcome_of_line}
use Rattle.rank_facts.specs.Swap.{IsSwap, falls_at, word_of, are_quiet_at}
use Rattle.rank_facts.specs.declared.fact.Fact.{Fact}
use Rattle.rank_facts.specs.declared.fact.Fact.TheVariants.{Ran, Swap}

-- what is true at a rank: its outcome, and each swap of its line; nothing where the spec does not start, and nothing from the number of ranks on
abbrev pub IsTrueAt : Spec → ℕ → Fact → Type 0
IsTrueAt spec r (Ran outcome) = (r < ranks spec) × (outcome_of_line spec (line_of spec r) ≡ Some outcome)
IsTrueAt spec r (Swap k) = (r < ranks spec) × ((w : World) × (start spec ≡ Started w) × IsSwap spec w r k)

-- the fact of a rank: when reducing the least swap, if there is one, and else the outcome
abbrev pub IsFactOf : Bool → Spec → ℕ → Fact → Type 0
IsFactOf reduce spec r (Ran outcome) = IsTrueAt spec r (Ran outcome) × (reduce ≡ true → (k : ℕ) → IsTrueAt spec r (Swap k) → ⊥)
IsFactOf reduce spec r (Swap k) = (reduce ≡ true) × (IsTrueAt spec r (Swap k) × ((m : ℕ) → m < k → IsTrueAt spec r (Swap m) → ⊥))

-- ---- the same, computed

abbrev pub has_no_lines : List (List ℕ) → Bool
has_no_lines [] = true
has_no_lines (l ∷ ls) = false

abbrev pub is_swap : Spec → World → ℕ → ℕ → Bool
is_swap spec w r k = has_no_lines spec.lines && (falls_at k (word_of spec r) && are_quiet_at spec w r k)

-- the least place from k on, of so many, that passes the test
abbrev pub least_place : (ℕ → Bool) → ℕ → ℕ → Option ℕ
least_place test k zero = None
least_place test k (suc more) = elim (test k) [ true ↦ Some k | false ↦ least_place test (suc k) more ]

abbrev pub least_swap : Spec → World → ℕ → Option ℕ
least_swap spec w r = least_place (is_swap spec w r) 0 (length (word_of spec r))

abbrev pub fact_from : Bool → Spec → World → ℕ → Fact
fact_from false spec w r = Ran (outcome_of spec.sessions (send_all spec.steps w (line_of spec r)))
fact_from true spec w r = elim (least_swap spec w r) [ None ↦ Ran (outcome_of spec.sessions (send_all spec.steps w (line_of spec r))) | Some k ↦ Swap k ]

-- the fact of a rank, where the spec starts and has the rank
abbrev pub fact_of : Bool → Spec → ℕ → Option Fact
fact_of reduce spec r = elim (start spec) [ Started w ↦ cond (nat_lt r (ranks spec)) (Some (fact_from reduce spec w r)) None | _ ↦ None ]
