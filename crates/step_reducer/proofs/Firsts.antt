-- A walk at its first rank, and the facts of lines.
use Rattle.std.proofs.Common.{◌≡◌, ◌≢◌, refl, sym, ap, ◌∙◌, subst, ℕ, ◌-◌, ◌<◌, ◌≤◌, Bool, false, inl, List, [], length, Some, arith}
use Rattle.perm_ranks.specs.Words.{total, all_words}
use Rattle.perm_ranks.specs.Blocks.{Block, IsBlockOf, end_of}
use Rattle.bound_specs.specs.Spec.{Spec, SpecFile, ranks, line_of, counts_of, queues_of}
use Rattle.machine_model.specs.World.{World, blank, send_all, outcome_of}
use Rattle.machine_model.specs.Start.{Started, start}
use Rattle.machine_model.specs.Outcome.{outcome_of_line}
use Rattle.rank_facts.specs.Facts.{IsFactOf}
use Rattle.rank_facts.specs.declared.fact.Fact.TheVariants.{Ran}
use Rattle.events.specs.declared.event.Event.{Event}
use Rattle.known_worlds.specs.Paths.{first_world}
use Rattle.step_reducer.specs.Reduced.{tour_of, IsTour, IsPlace}
use Rattle.step_reducer.specs.Framed.{Framed}
use Rattle.step_reducer.specs.declared.word_walk.WordWalk.{WordWalk}
use Rattle.step_reducer.specs.Walks.{lowest, AreAbove}
use Rattle.step_reducer.specs.Walking.{IsWords}
use Rattle.rank_facts.proofs.Leading.{outcome-started}
use Rattle.step_reducer.proofs.Places.{place-first}

pub first-is : (spec : Spec) (w : World) → start spec ≡ Started w → first_world spec ≡ w
first-is spec w e = ap (λ s. (let v : World = elim s [ Started u ↦ u | _ ↦ blank ] in v)) e

pub tour-is : (spec : Spec) (reduce : Bool) (w : World) → start spec ≡ Started w → spec.lines ≡ [] → IsTour (tour_of spec reduce)
tour-is spec reduce w e words = record { starts = e ∙ ap Started (sym (first-is spec w e)); words = words }

pub words-first : (file : SpecFile) (w : WordWalk) (counts : List ℕ)
    → counts ≡ counts_of (queues_of file.run) → file.run.lines ≡ [] → start file.run ≡ Started w.stack.top.world.world → w.stack.top.world.spent ≡ false
    → w.stack.top.world.file ≡ file
    → IsBlockOf counts [] w.stack.top.block → w.stack.top.block ≡ record { left = counts; first = 0 } → w.stack.top.swaps ≡ [] → w.stack.below ≡ []
    → w.table ≡ queues_of file.run → w.steps ≡ total counts → w.end ≤ length (all_words counts) → w.at ≤ w.end → IsWords file w.reduce w.at w.end w
words-first file w counts is_counts words started whole is_file block all none below table steps few order = record {
  walk = record {
    tour = tour-is file.run w.reduce w.stack.top.world.world started words;
    table = table;
    steps = steps ∙ ap total is_counts;
    stack = record {
      below = λ k d lt. absurd (let len = ap (λ (fs : List Framed). length fs) below in omega (arith, len, lt));
      top = record {
        frame = record {
          shared = [];
          stands = subst (λ v. IsPlace (tour_of file.run w.reduce) [] w.stack.top.block v w.stack.top.swaps)
              (first-is file.run w.stack.top.world.world started)
              (subst (λ s. IsPlace (tour_of file.run w.reduce) [] w.stack.top.block (first_world file.run) s) (sym none)
              (place-first (tour_of file.run w.reduce) w.stack.top.block (subst (λ c. IsBlockOf c [] w.stack.top.block) is_counts block)
              (ap (λ (b : Block). b.left) all ∙ is_counts)));
          file_is = file_same;
          whole = whole;
        };
        from = (let first = ap (λ (b : Block). b.first) all in omega (arith, first));
      };
      to = subst (λ fs. w.end ≤ end_of (lowest fs w.stack.top).block) (sym below) whole_to;
      above = subst (λ fs. AreAbove (w.at - 1) w.end fs w.stack.top) (sym below) tt;
    };
  };
  reduce_is = refl;
  end_is = refl;
  few = order;
  follows = λ e. inl (refl, record { all = ap (λ (b : Block). total b.left) all ∙ ap total is_counts; to = whole_to });
}
  where
    whole_to : w.end ≤ end_of w.stack.top.block
    whole_to = subst (λ b. w.end ≤ end_of b) (sym all) (omega (arith, few))

    file_same : w.stack.top.world.file ≡ file
    file_same = is_file

-- of a spec with lines each fact is the outcome of its line
pub line-fact : (reduce : Bool) (spec : Spec) (r : ℕ) (line : List ℕ) (o : List (List Event)) → spec.lines ≢ [] → r < ranks spec → line ≡ line_of spec r
    → outcome_of_line spec line ≡ Some o → IsFactOf reduce spec r (Ran o)
line-fact reduce spec r line o some lt is ran = ((lt, ap (λ l. outcome_of_line spec l) (sym is) ∙ ran), λ on k fact. some fact.1.2.words)

-- the outcome of a line, from the world after its steps
pub line-ran : (spec : Spec) (ks : List ℕ) → start spec ≡ Started (first_world spec)
    → outcome_of_line spec ks ≡ Some (outcome_of spec.sessions (send_all spec.steps (first_world spec) ks))
line-ran spec ks starts = outcome-started spec (first_world spec) ks starts
