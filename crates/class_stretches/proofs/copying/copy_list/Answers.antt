use Rattle.std.proofs.Common.{◌≡◌, ◌∙◌, ap, ◌+◌, ◌^◌, ◌<◌, arith}
use Rattle.class_stretches.specs.Stretches.{end_of}
use Rattle.class_stretches.proofs.Places.{copying-start, copying-inside, copying-read}
use Rattle.class_stretches.proofs.copying.copy_list.Goals as goal

pub loop-at-init : goal.loop-at-init
loop-at-init c =
    let starts : c.end_of_list-start.result ≡ end_of c.args.list.now.items = c.end_of_list-start.ensures ∙ ap end_of c.deref.ensures.value in
    let found = rw c.deref-2.ensures.value at c.place_of-place.ensures in
    copying-start c.args.list.now.items c.args.from c.end_of_list-start.result _ c.place_of-place.result starts (omega (arith, starts, c.requires.some))
    (omega (arith, starts, c.requires.inside)) c.requires.stretches found.before found.behind

pub index-stretch-requires : goal.index-stretch-requires
index-stretch-requires c =
    let inside = copying-inside c.loop-at-test.true c.loop-at.invariant in
    omega (arith, inside, c.loop-at.list.ok.0)

pub overflow_sub-upto : goal.overflow_sub-upto
overflow_sub-upto c =
    let more = (copying-read c.loop-at-test.true c.loop-at.invariant c.index-stretch.ensures c.min-upto.ensures).0 in
    omega (arith, more, c.loop-at.invariant.begun)

pub overflow_add-place : goal.overflow_add-place
overflow_add-place c =
    let list = c.loop-at.list in
    let inside = copying-inside c.loop-at-test.true c.loop-at.invariant in
    let fits : c.loop-at.place + 1 < 2 ^ 63 = omega (arith, inside, list.ok.0, list.ok.1, list.small) in
    omega (arith, fits)

pub loop-at-smaller : goal.loop-at-smaller
loop-at-smaller c =
    let more = (copying-read c.loop-at-test.true c.loop-at.invariant c.index-stretch.ensures c.min-upto.ensures).0 in
    omega (arith, more, c.loop-at-test.true)

pub loop-at-preserved : goal.loop-at-preserved
loop-at-preserved c =
    rw c.in_ok-put.ensures.ok (copying-read c.loop-at-test.true c.loop-at.invariant c.index-stretch.ensures c.min-upto.ensures).1
