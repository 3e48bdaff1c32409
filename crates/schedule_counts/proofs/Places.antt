-- How far the sessions are.
use Rattle.std.proofs.Common.{◌≡◌, sym, ap, ◌∙◌, ℕ, ◌+◌, ◌<◌, inl, inr, true, List, [], ◌∷◌, length, get_or, set, arith}
use Rattle.std.proofs.lemmas.Bool.{cases_lt, false≢true}
use Rattle.std.proofs.lemmas.List.{length-set}
use Rattle.perm_ranks.specs.Counting.{taken}
use Rattle.bound_specs.specs.Spec.{Spec, counts_of, queues_of}
use Rattle.bound_specs.specs.Walking.{steps_from}
use Rattle.bound_specs.proofs.WalkLemmas.{queues_at-start, eight-zeros, get_or-queues_at, get_or-queues_at-past, queues_at-set}
use Rattle.spec_schedules.specs.Points.{is_some_left}
use Rattle.spec_schedules.proofs.Letters.{counts-taken}
use Rattle.schedule_counts.specs.declared.place.Place.{Place}
use Rattle.schedule_counts.specs.Searching.{left_at, IsPlaceOf, IsTaken}

pub left-start : (run : Spec) → left_at run (0 ∷ 0 ∷ 0 ∷ 0 ∷ 0 ∷ 0 ∷ 0 ∷ 0 ∷ []) ≡ queues_of run
left-start run = queues_at-start run.steps 0 run.sessions (0 ∷ 0 ∷ 0 ∷ 0 ∷ 0 ∷ 0 ∷ 0 ∷ 0 ∷ []) eight-zeros

module _ (run : Spec) (old new : Place) (a k : ℕ) (is : IsPlaceOf run old) (few : a < 8) (some : is_some_left (get_or (left_at run old.next) a []) ≡ true)
    (step : steps_from a (get_or old.next a 0) run.steps ≡ k ∷ steps_from a (k + 1) run.steps) (next : new.next ≡ set old.next a (k + 1)) (block : new.block.left ≡ taken old.block.left a) where
  inside : a < run.sessions
  inside = elim (cases_lt a run.sessions) [ inl lt ↦ lt | inr le ↦ absurd (false≢true (sym (ap is_some_left (get_or-queues_at-past run.steps run.sessions a old.next le)) ∙ some)) ]

  abbrev rest : List ℕ
  rest = steps_from a (k + 1) run.steps

  queue : get_or (left_at run old.next) a [] ≡ k ∷ rest
  queue = get_or-queues_at run.steps 0 run.sessions a a old.next inside (omega arith) ∙ step

  left : left_at run new.next ≡ set (left_at run old.next) a rest
  left = ap (left_at run) next ∙ queues_at-set run.steps 0 run.sessions a a (k + 1) old.next inside (omega arith) (let e = is.each in omega arith)

  pub place-taken : IsTaken run old new a k
  place-taken = record { rest = rest; queue = queue; left = left }

  pub place-after : IsPlaceOf run new
  place-after = record {
    counts = block ∙ ap (λ c. taken c a) is.counts ∙ sym (counts-taken (left_at run old.next) a k rest queue) ∙ ap counts_of (sym left);
    each = ap length next ∙ length-set old.next a (k + 1) ∙ is.each;
  }
