use Rattle.std.proofs.Common.{◌≡◌, sym, ap, ◌∙◌, subst, ℕ, suc, ◌+◌, ◌<◌, ◌≤◌, List, [], ◌∷◌, ◌++◌, length, get_or, arith, length-append, false}
use Rattle.bound_specs.specs.Spec.{SpecFile, queues_of}
use Rattle.known_worlds.specs.Known.{KnownRunning}
use Rattle.rank_facts.specs.Swap.{quiet_heads}
use Rattle.step_reducer.proofs.Listed.{listed-push, listed-all}
use Rattle.step_reducer.proofs.Tables.{session-known}
use Rattle.step_reducer.proofs.frame.swaps_with.Goals as goal

pub is_quiet_beside-requires-clause-table : goal.is_quiet_beside-requires-clause-table
is_quiet_beside-requires-clause-table c = c.requires.table ∙ ap (λ (r : KnownRunning). queues_of r.file.run) (sym c.loop-smaller.invariant.same)

pub is_quiet_beside-requires-clause-whole : goal.is_quiet_beside-requires-clause-whole
is_quiet_beside-requires-clause-whole c = ap (λ (r : KnownRunning). r.spent) c.loop-smaller.invariant.same ∙ c.requires.whole

pub is_quiet_beside-requires-clause-step : goal.is_quiet_beside-requires-clause-step
is_quiet_beside-requires-clause-step c =
    subst (λ (r : KnownRunning). c.args.step < length r.file.run.steps) (sym c.loop-smaller.invariant.same) c.requires.step

pub returns-in_err-is_quiet-clause-same : goal.returns-in_err-is_quiet-clause-same
returns-in_err-is_quiet-clause-same c =
    c.is_quiet_beside.ensures.same ∙ ap (λ (r : KnownRunning). let s : KnownRunning = record r { level = c.is_quiet_beside.new.world.level } in s) c.loop-smaller.invariant.same

pub push-requires : goal.push-requires
push-requires c =
    let run = c.args.world.now.file.run in
    let some = c.requires.left in
    let few = c.requires.lefts c.args.letter in
    let known = session-known run c.args.letter (omega (arith, some, few, ap (λ (q : List (List ℕ)). length (get_or q c.args.letter [])) c.requires.table)) in
    let count : c.sessions-sessions.result ≡ run.sessions = c.sessions-sessions.ensures.count ∙ ap (λ (f : SpecFile). f.run.sessions) c.spec.ensures in
    omega (arith, known, count, c.sessions-sessions.ensures.few, c.loop-smaller.invariant.made, c.loop-smaller-test.true)

pub loop-smaller-preserved : goal.loop-smaller-preserved
loop-smaller-preserved c =
    let r = c.args.world.now in
    let n = c.loop-smaller.smaller in record {
      made = (let more = ap (λ (xs : List Rattle.std.proofs.Common.Bool). length xs) c.push.ensures.items in
          omega (arith, more, length-append c.loop-smaller.swaps.items (c.in_ok-is_quiet.is_quiet ∷ []), c.loop-smaller.invariant.made));
      listed = λ rest ks lefts b lt. ap (λ xs. get_or xs b false) c.push.ensures.items
          ∙ listed-push c.loop-smaller.swaps.items n c.in_ok-is_quiet.is_quiet
          (λ k. quiet_heads r.file.run.steps r.world (c.args.step ∷ ks) (get_or rest k []))
          c.loop-smaller.invariant.made (c.loop-smaller.invariant.listed rest ks lefts)
          (c.in_ok-is_quiet.ensures.answer ks (get_or rest n []) (lefts n)
          ∙ ap (λ (w : KnownRunning). quiet_heads w.file.run.steps w.world (c.args.step ∷ ks) (get_or rest n [])) c.loop-smaller.invariant.same) b lt;
      same = c.in_ok-is_quiet.ensures.same
          ∙ ap (λ (w : KnownRunning). let s : KnownRunning = record w { level = c.is_quiet_beside.new.world.level } in s) c.loop-smaller.invariant.same;
    }

pub returns-clause-swaps : goal.returns-clause-swaps
returns-clause-swaps c = λ rest ks at lefts.
    let steps = c.args.world.now.file.run.steps in
    let w = c.args.world.now.world in
    listed-all c.loop-smaller.swaps.items c.loop-smaller.smaller steps w rest c.args.letter c.loop-smaller.invariant.made
    (omega (arith, c.loop-smaller-test.false)) (omega (arith, c.loop-smaller.auto))
    (λ b lt. c.loop-smaller.invariant.listed rest ks lefts b lt ∙ ap (λ h. quiet_heads steps w h (get_or rest b [])) (sym at))
