-- What is shown beneath a verdict, by hand.
use Rattle.std.specs.Prelude.{◌≡◌, ◌<◌, refl, ℕ, zero, suc, List, [], ◌∷◌, codes, None}
use Rattle.std.specs.Fmt.{digits}
use Rattle.std.proofs.Common.{inl, inr, arith}
use Rattle.bound_specs.specs.Spec.{SpecFile}
use Rattle.events.specs.declared.event.Event.TheVariants.{Sent, Rows, Done}
use Rattle.fact_books.specs.Entries.{Told}
use Rattle.book_commands.specs.Nearest.{IsFurther, IsNearest, difference_at, side_text}

-- ---- the nearest of four, of which two stand furthest

abbrev four : List (ℕ × ℕ)
four = (0, 1) ∷ (2, 0) ∷ (1, 5) ∷ (2, 0) ∷ []

before-second : (n : ℕ) → n < 1 → IsFurther (2, 0) (difference_at four n)
before-second zero lt = inl (omega arith)
before-second (suc n) lt = absurd (omega (arith, lt))

behind-second : (n : ℕ) → 1 < n → n < 4 → IsFurther (difference_at four n) (2, 0) → ⊥
behind-second zero more less further = omega (arith, more)
behind-second (suc zero) more less further = omega (arith, more)
behind-second (suc (suc zero)) more less (inl rank) = omega (arith, rank)
behind-second (suc (suc zero)) more less (inr same) = omega (arith, same.0)
behind-second (suc (suc (suc zero))) more less (inl rank) = omega (arith, rank)
behind-second (suc (suc (suc zero))) more less (inr same) = omega (arith, same.1)
behind-second (suc (suc (suc (suc n)))) more less further = omega (arith, less)

the_second : IsNearest four 1
the_second = record { inside = omega arith; before = before-second; behind = behind-second }

-- ---- what a report of one rank tells, of a spec of two sessions and two lines

abbrev two_lines : SpecFile
two_lines = record {
  text = [];
  session_names = codes "a" ∷ codes "b" ∷ [];
  step_names = codes "a1" ∷ codes "of b" ∷ [];
  asked = None;
  run = record {
    sessions = 2;
    steps = record { session = 0; statements = [] } ∷ record { session = 1; statements = [] } ∷ [];
    setups = [];
    session_setups = [];
    lines = (1 ∷ 0 ∷ []) ∷ (0 ∷ 1 ∷ []) ∷ [];
  };
}

abbrev one_value : List Told
one_value = ((Sent 0 ∷ Done ∷ []) ∷ (Sent 1 ∷ Rows 2 ∷ Done ∷ []) ∷ []) ∷ []

a_session : side_text (codes "here: ") two_lines one_value (0, 1) ≡ codes "here: \"of b\" a1\nsession b\n  step of b\n  rows 2\n  done\n"
unfolding digits
a_session = refl

no_session : side_text (codes "here: ") two_lines one_value (0, 2) ≡ codes "here: \"of b\" a1\nno session 2\n"
unfolding digits
no_session = refl

no_rank : side_text (codes "accepted: ") two_lines one_value (1, 0) ≡ codes "accepted: no rank 1\n"
unfolding digits
no_rank = refl
