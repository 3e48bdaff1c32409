-- Swaps of two neighbouring steps of a line: where they are true, and to which rank they lead.
use Rattle.std.specs.Prelude.{◌≡◌, ℕ, zero, suc, ◌+◌, Bool, true, false, cond, not, ◌&&◌, ◌==◌, nat_lt, List, [], ◌∷◌, set, take, get_or, Option, Some, None, is_some}
use Rattle.machine_model.specs.World.{World, send, send_all}
use Rattle.bound_specs.specs.Spec.{Step, no_step, Spec, counts_of, Queues, line_of, queues_of}
use Rattle.rank_facts.specs.Quiet.{is_quiet}
use Rattle.perm_ranks.specs.Words.{Word, all_words, place_of, word_at}
use Rattle.perm_ranks.specs.Swapped.{exchanged}

-- the next steps of the two letters are quiet in the world
abbrev pub quiet_heads : List Step → World → List ℕ → List ℕ → Bool
quiet_heads steps w [] ls = false
quiet_heads steps w (k ∷ ks) [] = false
quiet_heads steps w (k ∷ ks) (l ∷ ls) = is_quiet w (get_or steps k no_step) (get_or steps l no_step)

-- the letters at k and after it are those of steps that are quiet in the world after the letters before k
abbrev pub quiet_at : List Step → World → Queues → ℕ → Word → Bool
quiet_at steps w q k [] = false
quiet_at steps w q zero (a ∷ []) = false
quiet_at steps w q zero (a ∷ b ∷ word) = not (a == b) && quiet_heads steps w (get_or q a []) (get_or q b [])
quiet_at steps w q (suc k) (a ∷ word) = elim (get_or q a []) [ [] ↦ quiet_at steps w q k word | n ∷ ns ↦ quiet_at steps (send steps w n) (set q a ns) k word ]

-- letters that stand before a smaller one, counted with each
abbrev pub smaller_in : ℕ → Word → ℕ
smaller_in a [] = 0
smaller_in a (b ∷ word) = cond (nat_lt b a) 1 0 + smaller_in a word

abbrev pub falls_in : Word → ℕ
falls_in [] = 0
falls_in (a ∷ word) = smaller_in a word + falls_in word

abbrev pub placed_at : List Word → Option Word → Option ℕ
placed_at words None = None
placed_at words (Some v) = place_of v words

abbrev pub falls_at : ℕ → Word → Bool
falls_at k word = is_some (exchanged k word)

-- between given lines nothing leads
abbrev pub leads_by : List (List ℕ) → Queues → ℕ → ℕ → Option ℕ
leads_by [] q r k = placed_at (all_words (counts_of q)) (exchanged k (word_at (counts_of q) r))
leads_by (l ∷ ls) q r k = None

-- where an exchange at k of the word of a rank leads: a matter of the spec alone, whether it starts or not
abbrev pub leads_in : Spec → ℕ → ℕ → Option ℕ
leads_in spec r k = leads_by spec.lines (queues_of spec) r k

-- the word of a rank, as if there were no lines
abbrev pub word_of : Spec → ℕ → Word
word_of spec r = word_at (counts_of (queues_of spec)) r

-- the step at a place of the line of a rank
abbrev pub step_at : Spec → ℕ → ℕ → Step
step_at spec r k = get_or spec.steps (get_or (line_of spec r) k 0) no_step

-- the step at k of the line and the next one are quiet in the world after the steps before them
abbrev pub are_quiet_at : Spec → World → ℕ → ℕ → Bool
are_quiet_at spec w r k = is_quiet (send_all spec.steps w (take k (line_of spec r))) (step_at spec r k) (step_at spec r (suc k))

-- the spec has no lines, the word of the rank falls at k, and from this world on the steps there are quiet
pub record IsSwap (spec : Spec) (w : World) (r k : ℕ) : Type 0 where
  pub words : spec.lines ≡ []
  pub falls : falls_at k (word_of spec r) ≡ true
  pub quiet : are_quiet_at spec w r k ≡ true
