-- The steps sent for lines that share what they can.
use Rattle.std.specs.Prelude.{ℕ, zero, suc, ◌+◌, ◌-◌, List, [], length}
use Rattle.bound_specs.specs.Spec.{Spec, line_of}
use Rattle.known_worlds.specs.Fronts.{front}
use Rattle.rank_facts.specs.declared.fact.Fact.{Fact}
use Rattle.rank_facts.specs.declared.fact.Fact.TheVariants.{Ran, Swap}

-- the line of the rank before, of so many from the first one on; before the first there is none
abbrev pub line_before : Spec → ℕ → ℕ → List ℕ
line_before spec first zero = []
line_before spec first (suc n) = line_of spec (first + n)

-- how many steps of a rank's line, so many ranks behind the first one, lie behind the front that it shares with the line of the rank before
abbrev pub new_steps : Spec → ℕ → ℕ → ℕ
new_steps spec first n = length (line_of spec (first + n)) - front (line_before spec first n) (line_of spec (first + n))

-- how many steps are sent for so many ranks from the first one on, where of each line only the new ones are sent
abbrev pub sent_by : Spec → ℕ → ℕ → ℕ
sent_by spec first zero = 0
sent_by spec first (suc n) = sent_by spec first n + new_steps spec first n

-- how many steps may be sent for the fact of a rank: those of its line for an outcome, and those up to the first of the two for a swap
abbrev pub most_steps : Spec → ℕ → Fact → ℕ
most_steps spec rank (Ran outcome) = length (line_of spec rank)
most_steps spec rank (Swap k) = k + 1
