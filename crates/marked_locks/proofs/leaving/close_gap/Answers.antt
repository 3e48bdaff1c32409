use Rattle.std.proofs.Common.{◌≡◌, ◌+◌, ◌-◌, ◌∙◌, suc, List, arith, ap, get_or, length, set, subst, sym, take}
use Rattle.std.proofs.lemmas.Option.{get_or_from_slice_get}
use Rattle.marked_lists.specs.Versions.{Versions}
use Rattle.marked_locks.specs.declared.wait.NumberedWait.{NumberedWait}
use Rattle.marked_locks.specs.Places.{no_wait}
use Rattle.marked_locks.proofs.LeavingLemmas.{length-moved, moved, moved-all, moved-more, moved-none}
use Rattle.marked_locks.proofs.leaving.close_gap.Goals as goal

pub loop-at-init : goal.loop-at-init
loop-at-init c =
    let old : Versions NumberedWait = c.args.waits.now in
    (ap (λ (ws : List NumberedWait). record old { list = ws }) (sym (moved-none c.args.place old.list)), omega arith)

pub get-next-requires : goal.get-next-requires
get-next-requires c =
    let same = ap (λ (v : Versions NumberedWait). length v.list) c.loop-at.invariant.0 ∙ length-moved c.args.place c.loop-at.at c.args.waits.now.list in
    let test = c.loop-at-test.true in
    let long = c.len-last.ensures in
    omega (arith, same, test, long)

pub set-requires : goal.set-requires
set-requires c =
    let same = ap (λ (v : Versions NumberedWait). length v.list) c.loop-at.invariant.0 ∙ length-moved c.args.place c.loop-at.at c.args.waits.now.list in
    let test = c.loop-at-test.true in
    let long = c.len-last.ensures in
    omega (arith, same, test, long)

pub loop-at-preserved : goal.loop-at-preserved
loop-at-preserved c =
    let old : Versions NumberedWait = c.args.waits.now in
    let k = c.args.place in
    let n = c.loop-at.at in
    let test = c.loop-at-test.true in
    let long = c.len-last.ensures in
    let within = c.loop-at.invariant.1 in
    let more : moved k (suc n) old.list ≡ set (moved k n old.list) n (get_or (moved k n old.list) (suc n) no_wait) =
    moved-more k n old.list no_wait within (omega (arith, test, long)) in
    let next : suc n ≡ n + 1 = omega arith in
    let put : NumberedWait → Versions NumberedWait = (λ w. record c.loop-at.waits { list = set c.loop-at.waits.list n w }) in (
      c.in_ok-set.ensures.set
          ∙ ap put (sym (get_or_from_slice_get c.loop-at.waits.list (n + 1) c.get-next.result no_wait c.get-next.ensures))
          ∙ ap (λ (v : Versions NumberedWait). record v { list = set v.list n (get_or v.list (n + 1) no_wait) }) c.loop-at.invariant.0
          ∙ ap (λ (ws : List NumberedWait). record old { list = ws })
          (sym (subst (λ m. moved k m old.list ≡ set (moved k n old.list) n (get_or (moved k n old.list) m no_wait)) next more)),
      omega (arith, within),
    )

pub returns-clause-closed : goal.returns-clause-closed
returns-clause-closed c =
    let old : Versions NumberedWait = c.args.waits.now in
    let k = c.args.place in
    let n = c.loop-at.at in
    let test = c.loop-at-test.false in
    let past = c.loop-at.auto.at-end in
    let long = c.len-last.ensures in
    let inside = c.requires in
    let within = c.loop-at.invariant.1 in
    let last : n ≡ c.len-last.result - 1 = omega (arith, test, past, long, inside, within) in
    let whole : length old.list ≡ suc n = omega (arith, test, past, long, inside, within) in
    c.truncate.ensures
    ∙ ap (λ (v : Versions NumberedWait). record v { list = take (c.len-last.result - 1) v.list }) c.loop-at.invariant.0
    ∙ ap (λ (ws : List NumberedWait). record old { list = ws })
    (subst (λ m. take m (moved k n old.list) ≡ take n (moved k n old.list)) last (λ i. take n (moved k n old.list)) ∙ moved-all k n old.list within whole)
