use mathlib.Core.List.{IsPrefix}
use Rattle.std.proofs.Common.{◌≡◌, refl, sym, ap, ◌∙◌, subst, ℕ, suc, ◌-◌, ◌<◌, Bool, true, false, List, [], ◌∷◌, ◌++◌, length, get_or, arith, length-append}
use Rattle.std.proofs.lemmas.Option.{get_or_from_slice_get, slice_get_within}
use Rattle.perm_ranks.specs.Words.{total, all_words}
use Rattle.perm_ranks.specs.Blocks.{HasRank, end_of}
use Rattle.perm_ranks.proofs.CountLemmas.{length-all_words}
use Rattle.bound_specs.specs.Spec.{Spec, SpecFile}
use Rattle.machine_model.specs.World.{send, outcome_of}
use Rattle.rank_facts.specs.Facts.{IsFactOf}
use Rattle.rank_facts.specs.declared.fact.Fact.TheVariants.{Ran, Swap}
use Rattle.events.specs.declared.event.Event.{Event}
use Rattle.step_reducer.specs.Reduced.{tour_of}
use Rattle.step_reducer.specs.Framed.{Stacked}
use Rattle.step_reducer.specs.Walks.{RunsOne, IsAt}
use Rattle.step_reducer.proofs.FactsAt.{swap-within, swap-all, ran-at}
use Rattle.step_reducer.proofs.Partings.{line-length}
use Rattle.step_reducer.proofs.Stacks.{at-told}
use Rattle.step_reducer.proofs.Turns.{turn-place}
use Rattle.step_reducer.proofs.word_walk.find.Goals as goal

-- a swap is a fact only where facts are reduced
reduces : (reduce : Bool) (spec : Spec) (r k : ℕ) → IsFactOf reduce spec r (Swap k) → reduce ≡ false → ⊥
reduces reduce spec r k fact e = (let bad : false ≡ true = sym e ∙ fact.0 in cc)

-- and nothing was run for it
not-run : (first end k : ℕ) → RunsOne first end (Swap k)
not-run first end k o e = not-ran k o e
  where
    not-ran : {A : Type 0} (k : ℕ) (o : List (List Event)) → Swap k ≡ Ran o → A
    not-ran k o e = cc

-- behind a turn the stack is the same, wherever the machine stands
turned : (reduce : Bool) (file : SpecFile) (at end : ℕ) (x y : Stacked) → y ≡ record x { level = y.level } → IsAt reduce file at end x
    → IsAt reduce file at end y
turned reduce file at end x y same is = subst (IsAt reduce file at end) (sym same) (at-told reduce file at end x x.told y.level is)

pub returns-then-is_swap-clause-ran : goal.returns-then-is_swap-clause-ran
returns-then-is_swap-clause-ran c = not-run _ _ _

pub returns-then-is_covered-clause-ran : goal.returns-then-is_covered-clause-ran
returns-then-is_covered-clause-ran c = not-run _ _ _

pub returns-then-is_swap-clause-found : goal.returns-then-is_swap-clause-found
returns-then-is_swap-clause-found c =
    let file = c.args.stack.now.top.world.file in
    let top = c.turn.new.self.top in
    let now = turned c.args.reduce file c.args.at c.args.all c.letter.stack c.turn.new.self c.in_ok-turn.ensures.same c.letter.invariant.at in
    let frame = now.stack.top.frame in
    let turn = c.in_ok-turn.ensures.turn in
    let u = c.in_ok-turn.turn in
    let listed : get_or top.swaps u.letter false ≡ true = sym c.is_swap.ensures ∙ c.if-is_swap.true in
    let letters = frame.stands.ranks.letters in
    let some = frame.stands.some u.letter listed in
    let k = c.args.steps - c.letters_left-left.result - 1 in
    let last : suc k ≡ length frame.shared = omega (arith, letters, some, c.requires.steps, c.letters_left-left.ensures.all) in
    let from = turn.inside.0 in
    let to = turn.inside.1 in
    record {
      some = omega (arith, to, c.requires.some, c.min-behind.ensures, c.end.ensures.end);
      few = omega (arith, c.min-behind.ensures);
      sent_few = omega (arith, c.letters_left-before.ensures.few);
      facts = λ r le lt. (
          let behind : r < end_of u.block = omega (arith, lt, c.min-behind.ensures, c.end.ensures.end) in
          let has : HasRank u.block r = (omega (arith, from, le), behind) in
          swap-within (tour_of file.run c.args.reduce) frame.shared top.block top.world.world top.swaps
          u.letter k r c.requires.tour frame.stands turn.left listed last
          (subst (λ b. HasRank b r) turn.block_is has));
    }

pub returns-then-is_swap-clause-sent : goal.returns-then-is_swap-clause-sent
returns-then-is_swap-clause-sent c =
    let file = c.args.stack.now.top.world.file in
    let top = c.turn.new.self.top in
    let now = turned c.args.reduce file c.args.at c.args.all c.letter.stack c.turn.new.self c.in_ok-turn.ensures.same c.letter.invariant.at in
    let frame = now.stack.top.frame in
    let turn = c.in_ok-turn.ensures.turn in
    let u = c.in_ok-turn.turn in
    let listed : get_or top.swaps u.letter false ≡ true = sym c.is_swap.ensures ∙ c.if-is_swap.true in
    let letters = frame.stands.ranks.letters in
    let before = c.requires.has.stack.top.frame.stands.ranks.letters in
    let some = frame.stands.some u.letter listed in
    let k = c.args.steps - c.letters_left-left.result - 1 in
    let last : suc k ≡ length frame.shared = omega (arith, letters, some, c.requires.steps, c.letters_left-left.ensures.all) in
    let fact = swap-within
    (tour_of file.run c.args.reduce) frame.shared top.block top.world.world top.swaps u.letter
    k c.args.at c.requires.tour frame.stands turn.left listed last
    (subst (λ b. HasRank b c.args.at) turn.block_is turn.inside) in
    let never = reduces c.args.reduce file.run c.args.at k fact in
    record {
      most = omega (arith, letters, some, before, c.requires.steps, c.letters_left-left.ensures.all, c.letters_left-before.ensures.all);
      one = λ e. absurd (never e);
      all = λ e. absurd (never e);
      whole = λ e. absurd (never e);
    }

pub returns-then-is_covered-clause-found : goal.returns-then-is_covered-clause-found
returns-then-is_covered-clause-found c =
    let file = c.args.stack.now.top.world.file in
    let top = c.turn.new.self.top in
    let now = turned c.args.reduce file c.args.at c.args.all c.letter.stack c.turn.new.self c.in_ok-turn.ensures.same c.letter.invariant.at in
    let frame = now.stack.top.frame in
    let turn = c.in_ok-turn.ensures.turn in
    let u = c.in_ok-turn.turn in
    let unlisted : get_or top.swaps u.letter false ≡ false = sym c.is_swap.ensures ∙ c.if-is_swap.false in
    let covered = c.is_covered.ensures c.if-is_covered.true in
    let letters = frame.stands.ranks.letters in
    let k = c.args.steps - c.letters_left-left.result in
    let last : suc k ≡ length (frame.shared ++ u.letter ∷ []) =
    omega (arith, letters, c.requires.steps, c.letters_left-left.ensures.all, length-append frame.shared (u.letter ∷ [])) in
    let from = turn.inside.0 in
    let to = turn.inside.1 in
    record {
      some = omega (arith, to, c.requires.some, c.min-behind.ensures, c.end.ensures.end);
      few = omega (arith, c.min-behind.ensures);
      sent_few = omega (arith, c.letters_left-before.ensures.few);
      facts = λ r le lt. (
          let behind : r < end_of u.block = omega (arith, lt, c.min-behind.ensures, c.end.ensures.end) in
          let has : HasRank u.block r = (omega (arith, from, le), behind) in
          swap-all (tour_of file.run c.args.reduce) (frame.shared ++ u.letter ∷ []) u.block
          (send top.world.file.run.steps top.world.world u.step) u.swaps.items k r c.requires.tour
          (turn-place c.args.reduce file top u c.args.at frame turn unlisted) covered.some covered.all last has);
    }

pub returns-then-is_covered-clause-sent : goal.returns-then-is_covered-clause-sent
returns-then-is_covered-clause-sent c =
    let file = c.args.stack.now.top.world.file in
    let top = c.turn.new.self.top in
    let now = turned c.args.reduce file c.args.at c.args.all c.letter.stack c.turn.new.self c.in_ok-turn.ensures.same c.letter.invariant.at in
    let frame = now.stack.top.frame in
    let turn = c.in_ok-turn.ensures.turn in
    let u = c.in_ok-turn.turn in
    let unlisted : get_or top.swaps u.letter false ≡ false = sym c.is_swap.ensures ∙ c.if-is_swap.false in
    let covered = c.is_covered.ensures c.if-is_covered.true in
    let letters = frame.stands.ranks.letters in
    let before = c.requires.has.stack.top.frame.stands.ranks.letters in
    let k = c.args.steps - c.letters_left-left.result in
    let last : suc k ≡ length (frame.shared ++ u.letter ∷ []) =
    omega (arith, letters, c.requires.steps, c.letters_left-left.ensures.all, length-append frame.shared (u.letter ∷ [])) in
    let fact = swap-all (tour_of file.run c.args.reduce) (frame.shared ++ u.letter ∷ []) u.block
    (send top.world.file.run.steps top.world.world u.step) u.swaps.items k c.args.at c.requires.tour
    (turn-place c.args.reduce file top u c.args.at frame turn unlisted) covered.some covered.all last turn.inside in
    let never = reduces c.args.reduce file.run c.args.at k fact in
    record {
      most = omega (arith, letters, before, c.requires.steps, c.letters_left-left.ensures.all, c.letters_left-before.ensures.all);
      one = λ e. absurd (never e);
      all = λ e. absurd (never e);
      whole = λ e. absurd (never e);
    }

pub returns-clause-sent : goal.returns-clause-sent
returns-clause-sent c =
    let file = c.args.stack.now.top.world.file in
    let ranks = c.requires.has.stack.top.frame.stands.ranks in
    let before = ranks.letters in
    let inside = ranks.inside in
    let to = c.requires.has.has.1 in
    let len = line-length file.run c.requires.tour.words c.args.at (omega (arith, inside, to)) in
    record {
      most = omega (arith, len, before, c.letters_left-before.ensures.all);
      one = λ e. refl;
      all = λ e. c.letters_left-before.ensures.all;
      whole = λ e. (let none : total c.letter.stack.top.block.left ≡ 0 = omega (arith, c.letter-test.false, c.letters_left.ensures.all) in
          ap (λ (s : Stacked). total s.top.block.left) c.in_ok-number.ensures.same ∙ none);
    }

pub returns-clause-ran : goal.returns-clause-ran
returns-clause-ran c o e = refl

pub letter-smaller : goal.letter-smaller
letter-smaller c =
    let file = c.args.stack.now.top.world.file in
    let now = turned c.args.reduce file c.args.at c.args.all c.letter.stack c.turn.new.self c.in_ok-turn.ensures.same c.letter.invariant.at in
    let gone = c.in_ok-descend.ensures.gone c.args.reduce file c.args.at (omega (arith, c.requires.some, c.requires.inside)) now c.in_ok-turn.ensures.turn
    (sym c.is_swap.ensures ∙ c.if-is_swap.false) in
    let less = gone.less in
    let same = ap (λ (s : Stacked). total s.top.block.left) c.in_ok-turn.ensures.same in
    omega (arith, less, same)

pub letter-preserved : goal.letter-preserved
letter-preserved c =
    let file = c.args.stack.now.top.world.file in
    let now = turned c.args.reduce file c.args.at c.args.all c.letter.stack c.turn.new.self c.in_ok-turn.ensures.same c.letter.invariant.at in
    let gone = c.in_ok-descend.ensures.gone c.args.reduce file c.args.at (omega (arith, c.requires.some, c.requires.inside)) now c.in_ok-turn.ensures.turn
    (sym c.is_swap.ensures ∙ c.if-is_swap.false) in
    let less = gone.less in
    let same = ap (λ (s : Stacked). total s.top.block.left) c.in_ok-turn.ensures.same in
    record {
      at = gone.now;
      letters = omega (arith, less, same, c.letter.invariant.letters);
      told = c.in_ok-descend.ensures.told ∙ ap (λ (s : Stacked). s.told) c.in_ok-turn.ensures.same ∙ c.letter.invariant.told;
    }

pub returns-clause-found : goal.returns-clause-found
returns-clause-found c =
    let file = c.args.stack.now.top.world.file in
    let top = c.letter.stack.top in
    let frame = c.letter.invariant.at.stack.top.frame in
    let has = c.letter.invariant.at.has in
    let none : total top.block.left ≡ 0 = omega (arith, c.letter-test.false, c.letters_left.ensures.all) in
    let one : length (all_words top.block.left) ≡ 1 = length-all_words top.block.left 0 none in
    let from = has.0 in
    let to = has.1 in
    let outcome = outcome_of top.world.file.run.sessions top.world.world in
    let all = c.outcome.new.self.told in
    let said = get_or all c.in_ok-number.number [] in
    let told : Ran (outcome_of file.run.sessions top.world.world) ≡ Ran said =
    ap Ran (sym (get_or_from_slice_get all c.in_ok-number.number outcome [] c.in_ok-number.ensures.told
    ∙ ap (λ (f : SpecFile). outcome_of f.run.sessions top.world.world) frame.file_is)) in
    record {
      some = omega arith;
      few = omega (arith, c.requires.some);
      sent_few = omega (arith, c.letters_left-before.ensures.few);
      facts = λ r le lt. (
          let same : r ≡ top.block.first = omega (arith, one, from, to, le, lt) in
          subst (λ n. IsFactOf c.args.reduce file.run n (Ran said)) (sym same)
          (subst (IsFactOf c.args.reduce file.run top.block.first) told
          (ran-at (tour_of file.run c.args.reduce) frame.shared top.block top.world.world top.swaps c.requires.tour frame.stands none)));
    }

pub returns-clause-has : goal.returns-clause-has
returns-clause-has c =
    let file = c.args.stack.now.top.world.file in
    subst (IsAt c.args.reduce file c.args.at c.args.all) (sym c.in_ok-number.ensures.same)
    (at-told c.args.reduce file c.args.at c.args.all c.letter.stack c.outcome.new.self.told c.outcome.new.self.level c.letter.invariant.at)

pub returns-clause-number : goal.returns-clause-number
returns-clause-number c = slice_get_within c.outcome.new.self.told c.in_ok-number.number _ c.in_ok-number.ensures.told

pub returns-clause-front : goal.returns-clause-front
returns-clause-front c = subst (λ told. IsPrefix told c.outcome.new.self.told) c.letter.invariant.told c.in_ok-number.ensures.front
