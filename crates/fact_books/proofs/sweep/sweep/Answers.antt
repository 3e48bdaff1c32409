use Rattle.std.proofs.Common.{sym, ◌≡◌, subst, arith, rules, length}
use Rattle.fact_books.specs.Runs.{AllSound}
use Rattle.fact_books.specs.Books.{facts_in}
use Rattle.fact_books.specs.Sweep.{AllReach, IsStretch, IsSweeping, leads_of, IsStop}
use Rattle.fact_books.proofs.SweepLemmas.{is-stretch, sweep-next, sweep-split}
use Rattle.fact_books.proofs.sweep.sweep.Goals as goal

pub fill-requires-clause-sound : goal.fill-requires-clause-sound
fill-requires-clause-sound c =
    subst (AllSound (length c.args.outcomes.now)) (sym c.as_slice-in-loop-alloc-2.ensures.value)
    (c.in_ok-now.ensures.sound (length c.args.outcomes.now)
    (subst (AllSound (length c.args.outcomes.now)) (sym c.as_slice.ensures.value) c.loop-alloc.invariant.0.sound) c.requires.kept.sound)

pub returns-in_err-fill-clause-stop : goal.returns-in_err-fill-clause-stop
returns-in_err-fill-clause-stop c =
    let t = c.args.outcomes.now in
    let runs = c.args.runs.now in
    let now = c.in_ok-now.now.items in
    let rank : c.len-rank.result ≡ length c.loop-alloc.done.items = omega (arith, c.len-rank.ensures) in
    let a = c.in_ok-now.ensures in
    let b = c.border-until.ensures in
    let split = sweep-split t runs c.loop-alloc.active.items c.as_slice.result.now now c.loop-alloc.next c.in_ok-now.after
    (length c.loop-alloc.done.items) c.len-rank.result c.as_slice.ensures.value rank c.loop-alloc.invariant.0 (a.facts t runs) in
    let stretch = is-stretch t runs now c.in_ok-now.after c.len-rank.result c.border-until.result c.requires.kept.rising a.cover
    (subst (AllReach c.border-until.result) c.as_slice-in-loop-alloc.ensures.value b.reach) b.rest split in
    let stop : IsStop (facts_in t runs) (leads_of c.args.shape.now) c.args.ranks c.in_err-fill.field-0.0 =
    c.in_err-fill.ensures.stop (facts_in t runs) c.args.ranks b.few
    (subst (λ r. IsStretch (facts_in t runs) t c.as_slice-in-loop-alloc-2.result.now r c.border-until.result) rank
    (subst (λ l. IsStretch (facts_in t runs) t l c.len-rank.result c.border-until.result) (sym c.as_slice-in-loop-alloc-2.ensures.value) stretch))
    c.loop-alloc.invariant.3 in
    search rules

pub loop-alloc-preserved : goal.loop-alloc-preserved
loop-alloc-preserved c =
    let t = c.args.outcomes.now in
    let runs = c.args.runs.now in
    let now = c.in_ok-now.now.items in
    let rank : c.len-rank.result ≡ length c.loop-alloc.done.items = omega (arith, c.len-rank.ensures) in
    let a = c.in_ok-now.ensures in
    let b = c.border-until.ensures in
    let f = c.in_ok-fill.ensures in
    let split = sweep-split t runs c.loop-alloc.active.items c.as_slice.result.now now c.loop-alloc.next c.in_ok-now.after
    (length c.loop-alloc.done.items) c.len-rank.result c.as_slice.ensures.value rank c.loop-alloc.invariant.0 (a.facts t runs) in
    let stretch = is-stretch t runs now c.in_ok-now.after c.len-rank.result c.border-until.result c.requires.kept.rising a.cover
    (subst (AllReach c.border-until.result) c.as_slice-in-loop-alloc.ensures.value b.reach) b.rest split in
    let sound = a.sound (length t) (subst (AllSound (length t)) (sym c.as_slice.ensures.value) c.loop-alloc.invariant.0.sound) c.requires.kept.sound in
    let filled = f.filled in
    let few = b.few in (
      subst (λ n. IsSweeping t runs n now c.in_ok-now.after) (sym filled)
          (sweep-next t runs now c.in_ok-now.after c.len-rank.result c.border-until.result a.bound sound a.cover b.above split),
      f.numbered,
      omega (arith, filled, few),
      f.values (facts_in t runs)
          (subst (λ r. IsStretch (facts_in t runs) t c.as_slice-in-loop-alloc-2.result.now r c.border-until.result) rank
          (subst (λ l. IsStretch (facts_in t runs) t l c.len-rank.result c.border-until.result) (sym c.as_slice-in-loop-alloc-2.ensures.value) stretch))
          c.loop-alloc.invariant.3,
    )
