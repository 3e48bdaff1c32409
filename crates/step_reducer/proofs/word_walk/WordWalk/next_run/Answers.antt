use Rattle.std.proofs.Common.{◌≡◌, refl, sym, ap, ◌∙◌, subst, ℕ, ◌+◌, ◌-◌, ◌<◌, ◌≤◌, inr, ⊎_elim, arith}
use Rattle.perm_ranks.specs.Words.{total}
use Rattle.perm_ranks.specs.Blocks.{HasRank}
use Rattle.perm_ranks.proofs.CountLemmas.{length-all_words}
use Rattle.bound_specs.specs.Spec.{SpecFile, counts_of, queues_of}
use Rattle.step_reducer.specs.Reduced.{tour_of, IsTour}
use Rattle.step_reducer.specs.Framed.{Stacked}
use Rattle.step_reducer.specs.declared.word_walk.WordWalk.{WordWalk}
use Rattle.step_reducer.specs.Walks.{IsAt, IsFound, IsStack, IsBehind, HasSent}
use Rattle.step_reducer.specs.Saying.{finding_of}
use Rattle.step_reducer.proofs.Stacks.{stack-later}
use Rattle.step_reducer.proofs.Sendings.{left-new}
use Rattle.step_reducer.proofs.word_walk.WordWalk.next_run.Goals as goal

-- the stack that was gone back is one of the same file
back-file : (x : WordWalk) (file : SpecFile) (s : Stacked) → IsAt x.reduce file x.at x.end s → s.top.world.file ≡ file
back-file x file s is = is.stack.top.frame.file_is

-- the stack as one of the next rank
stack-now : (x : WordWalk) (file : SpecFile) → IsStack x.reduce file (x.at - 1) x.end x.stack → IsStack x.reduce file x.at x.end x.stack
stack-now x file is = stack-later x.reduce file (x.at - 1) x.at x.end x.stack (omega arith) is

-- behind the word of a rank
now-behind : (rank next : ℕ) (s : Stacked) → next ≡ rank + 1 → HasRank s.top.block rank → total s.top.block.left ≡ 0 → IsBehind (next - 1) s
now-behind rank next s is has none =
    let same : next - 1 ≡ rank = omega (arith, is) in
    let one = length-all_words s.top.block.left 0 none in
    let from = has.0 in
    subst (λ n. IsBehind n s) (sym same) (record { has = has; alone = omega (arith, one, from) })

pub find-requires-clause-tour : goal.find-requires-clause-tour
find-requires-clause-tour c =
    let x = c.args.self.now in
    let file = x.stack.top.world.file in
    let is = c.go_back.ensures.at x.reduce file x.end (omega (arith, c.requires.some, c.requires.inside)) (stack-now x file c.requires.walk.stack) in
    subst (λ (f : SpecFile). IsTour (tour_of f.run x.reduce)) (sym (back-file x file c.go_back.new.self is)) c.requires.walk.tour

pub find-requires-clause-table : goal.find-requires-clause-table
find-requires-clause-table c =
    let x = c.args.self.now in
    let file = x.stack.top.world.file in
    let is = c.go_back.ensures.at x.reduce file x.end (omega (arith, c.requires.some, c.requires.inside)) (stack-now x file c.requires.walk.stack) in
    c.requires.walk.table ∙ ap (λ (f : SpecFile). queues_of f.run) (sym (back-file x file c.go_back.new.self is))

pub find-requires-clause-steps : goal.find-requires-clause-steps
find-requires-clause-steps c =
    let x = c.args.self.now in
    let file = x.stack.top.world.file in
    let is = c.go_back.ensures.at x.reduce file x.end (omega (arith, c.requires.some, c.requires.inside)) (stack-now x file c.requires.walk.stack) in
    c.requires.walk.steps ∙ ap (λ (f : SpecFile). total (counts_of (queues_of f.run))) (sym (back-file x file c.go_back.new.self is))

pub find-requires-clause-has : goal.find-requires-clause-has
find-requires-clause-has c =
    let x = c.args.self.now in
    let file = x.stack.top.world.file in
    let is = c.go_back.ensures.at x.reduce file x.end (omega (arith, c.requires.some, c.requires.inside)) (stack-now x file c.requires.walk.stack) in
    subst (λ (f : SpecFile). IsAt x.reduce f x.at x.end c.go_back.new.self) (sym (back-file x file c.go_back.new.self is)) is

pub returns-clause-given : goal.returns-clause-given
returns-clause-given c =
    let x = c.args.self.now in
    let file = x.stack.top.world.file in
    let is = c.go_back.ensures.at x.reduce file x.end (omega (arith, c.requires.some, c.requires.inside)) (stack-now x file c.requires.walk.stack) in
    let same = back-file x file c.go_back.new.self is in
    let says = finding_of c.find.new.stack.told c.in_ok-found.found in
    let found = subst (λ (f : SpecFile). IsFound x.reduce f x.at c.args.end says) same c.in_ok-found.ensures.found in
    let some = found.some in
    let sends = subst (λ (f : SpecFile). HasSent x.reduce f.run x.at c.go_back.new.self says c.find.new.stack) same c.in_ok-found.ensures.sent in
    let now = subst (λ (f : SpecFile). IsAt x.reduce f x.at x.end c.find.new.stack) same c.in_ok-found.ensures.has in
    record {
      walk = record {
        tour = c.requires.walk.tour;
        table = c.requires.walk.table;
        steps = c.requires.walk.steps;
        stack = stack-later x.reduce file x.at (c.in_ok-found.found.end - 1) x.end c.find.new.stack (omega (arith, some)) now.stack;
      };
      first = refl;
      some = found.some;
      few = found.few;
      facts = found.facts;
      sent_few = found.sent_few;
      at = refl;
      all = refl;
      reduce = refl;
      most = sends.most;
      one = sends.one;
      ran = c.in_ok-found.ensures.ran;
      sent = λ first run follows. (
          let one = sends.one run in
          let before : x.at < x.end = omega (arith, c.requires.some, c.requires.inside) in
          let back = c.go_back.ensures.parted x.reduce file (x.at - 1) x.end before c.requires.walk.stack in
          let new = left-new file x.reduce first x c.go_back.new.self c.requires.walk.tour.words before is back follows in
          let from : first ≤ x.at = ⊎_elim (λ h. (let here = h.0 in omega (arith, here))) (λ h. (let lt = h.0 in omega (arith, lt))) follows in
          (sends.all run ∙ new, inr (omega (arith, from, one), now-behind x.at c.in_ok-found.found.end c.find.new.stack one now.has (sends.whole run))));
    }
