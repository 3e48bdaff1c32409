use Rattle.std.proofs.Common.{sym, ap, subst, ◌≤◌, length, arith}
use Rattle.bound_specs.specs.Spec.{SpecFile, ranks}
use Rattle.fact_books.specs.Runs.{AllSound}
use Rattle.fact_books.specs.Sweep.{AllReach}
use Rattle.fact_books.proofs.SweepLemmas.{sweep-next, sweep-split}
use Rattle.book_stretches.specs.Sweep.{end}
use Rattle.book_stretches.proofs.Going.{kept-same, refused-same, same-on, say-swept, swept-same}
use Rattle.book_stretches.proofs.telling.Telling.tell_all.Goals as goal

pub tell_stretch-requires-clause-say : goal.tell_stretch-requires-clause-say
tell_stretch-requires-clause-say c =
    let y = c.loop-alloc.self in
    let l = c.loop-alloc.invariant in
    let t = y.outcomes.now in
    let runs = y.runs.now in
    let now = c.in_ok-now.now.items in
    let a = c.in_ok-now.ensures in
    let b = c.border-until.ensures in
    let split = sweep-split t runs c.loop-alloc.active.items c.as_slice.result.now now c.loop-alloc.next c.in_ok-now.after (end y) c.end-rank.result
    c.as_slice.ensures.value c.end-rank.ensures l.sweeping (a.facts t runs) in
    let sound = a.sound (length t) (subst (AllSound (length t)) (sym c.as_slice.ensures.value) l.sweeping.sound) l.kept.sound in
    let count = c.ranks-ranks.ensures in
    let few : c.border-until.result ≤ ranks y.spec.now.run =
    (let below = b.few in let same = ap (λ (f : SpecFile). ranks f.run) l.same.file in omega (arith, below, same, count)) in
    say-swept y now c.as_slice-in-loop-alloc-2.result.now c.in_ok-now.after c.end-rank.result c.border-until.result l.kept sound a.cover
    (subst (AllReach c.border-until.result) c.as_slice-in-loop-alloc.ensures.value b.reach) b.rest split c.end-rank.ensures b.above few
    c.as_slice-in-loop-alloc-2.ensures.value

pub loop-alloc-preserved : goal.loop-alloc-preserved
loop-alloc-preserved c =
    let y = c.loop-alloc.self in
    let z = c.tell_stretch.new.self in
    let l = c.loop-alloc.invariant in
    let t = y.outcomes.now in
    let runs = y.runs.now in
    let now = c.in_ok-now.now.items in
    let a = c.in_ok-now.ensures in
    let b = c.border-until.ensures in
    let m = c.in-Ok.ensures.ok in
    let split = sweep-split t runs c.loop-alloc.active.items c.as_slice.result.now now c.loop-alloc.next c.in_ok-now.after (end y) c.end-rank.result
    c.as_slice.ensures.value c.end-rank.ensures l.sweeping (a.facts t runs) in
    let sound = a.sound (length t) (subst (AllSound (length t)) (sym c.as_slice.ensures.value) l.sweeping.sound) l.kept.sound in
    let there = m.there in
    let few = b.few in
    record {
      telling = m.telling;
      same = same-on c.args.self.now y z l.same m.same;
      kept = kept-same y z m.same l.kept;
      sweeping = swept-same y z now c.in_ok-now.after c.border-until.result m.same m.there
          (sweep-next t runs now c.in_ok-now.after c.end-rank.result c.border-until.result a.bound sound a.cover b.above split);
      few = omega (arith, there, few);
    }

pub returns-in-Err-clause-stop : goal.returns-in-Err-clause-stop
returns-in-Err-clause-stop c =
    refused-same c.args.self.now c.loop-alloc.self c.in-Err.error c.loop-alloc.invariant.same c.in-Err.ensures.stop
