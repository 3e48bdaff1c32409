use Rattle.std.proofs.Common.{◌∙◌, refl, ◌+◌}
use Rattle.book_jobs.specs.declared.leaves.Pending.{Pending}
use Rattle.book_jobs.proofs.JobLemmas.{leaf-found, leaf-less, join-apart, join-less, too-deep}
use Rattle.book_jobs.proofs.JobViews.{join-seen}
use Rattle.book_jobs.proofs.leaves.leaves_of.Goals as goal

pub returns-then-pending-gt-MAX_LEVELS : goal.returns-then-pending-gt-MAX_LEVELS
returns-then-pending-gt-MAX_LEVELS c =
    too-deep c.args.job.now c.loop-pending.list.items c.loop-pending.rest.items c.pop.new.self.items c.in-Some.pending c.in-Some.ensures.items
    c.loop-pending.invariant
    c.if-pending-gt-MAX_LEVELS.true

pub loop-pending-smaller-in-Continue-branch-2 : goal.loop-pending-smaller-in-Continue-branch-2
loop-pending-smaller-in-Continue-branch-2 c =
    leaf-less c.args.job.now c.loop-pending.list.items c.loop-pending.rest.items c.pop.new.self.items c.in-Some.pending c.in-Some.ensures.items
    c.loop-pending.invariant
    c.in-Run.shard c.in-Run.reduce c.in-Run.is

pub loop-pending-preserved-in-Continue-branch-2 : goal.loop-pending-preserved-in-Continue-branch-2
loop-pending-preserved-in-Continue-branch-2 c =
    leaf-found c.args.job.now c.loop-pending.list.items c.loop-pending.rest.items c.pop.new.self.items c.in-Some.pending c.in-Some.ensures.items
    c.loop-pending.invariant
    c.in-Run.shard c.in-Run.reduce c.push-in-Run.new.self.items c.in-Run.is c.if-pending-gt-MAX_LEVELS.false c.in_ok-push-in-Run.ensures.items

pub loop-pending-smaller : goal.loop-pending-smaller
loop-pending-smaller c =
    let whole = c.in-Join.is ∙ join-seen c.in-Join.a c.in-Join.b in
    let left : Pending = record { job = c.get-in-Join.result; level = c.in-Some.pending.level + 1 } in
    let right : Pending = record { job = c.get.result; level = c.in-Some.pending.level + 1 } in
    join-less c.args.job.now c.loop-pending.list.items c.loop-pending.rest.items c.pop.new.self.items c.in-Some.pending c.in-Some.ensures.items
    c.loop-pending.invariant
    c.in-Join.a c.in-Join.b left right c.push-in-Join.new.self.items c.push-in-Join-2.new.self.items whole c.get-in-Join.ensures c.get.ensures
    c.in_ok-push-in-Join.ensures.items c.in_ok-push-in-Join-2.ensures.items

pub loop-pending-preserved : goal.loop-pending-preserved
loop-pending-preserved c =
    let whole = c.in-Join.is ∙ join-seen c.in-Join.a c.in-Join.b in
    let left : Pending = record { job = c.get-in-Join.result; level = c.in-Some.pending.level + 1 } in
    let right : Pending = record { job = c.get.result; level = c.in-Some.pending.level + 1 } in
    join-apart c.args.job.now c.loop-pending.list.items c.loop-pending.rest.items c.pop.new.self.items c.in-Some.pending c.in-Some.ensures.items
    c.loop-pending.invariant
    c.in-Join.a c.in-Join.b left right c.push-in-Join.new.self.items c.push-in-Join-2.new.self.items whole c.get-in-Join.ensures c.get.ensures refl refl
    c.in_ok-push-in-Join.ensures.items c.in_ok-push-in-Join-2.ensures.items
