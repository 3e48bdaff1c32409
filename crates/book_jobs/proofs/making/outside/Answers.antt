use Rattle.std.proofs.Common.{false}
use Rattle.book_jobs.specs.declared.leaves.Leaf.{Leaf}
use Rattle.book_jobs.proofs.JobLemmas.{first-outside, lawful-more}
use Rattle.book_jobs.proofs.making.outside.Goals as goal

abbrev none : Leaf
none = record { shard = record { first = 0; end = 0 }; reduce = false }

pub returns-in-Some : goal.returns-in-Some
returns-in-Some c = first-outside c.args.spec.now.run c.args.leaves.now c.loop-leaf.leaf-index none c.in-Some.error c.loop-leaf-test.true c.loop-leaf.invariant
    c.in-Some.ensures

pub loop-leaf-preserved : goal.loop-leaf-preserved
loop-leaf-preserved c =
    lawful-more c.args.spec.now.run c.args.leaves.now c.loop-leaf.leaf-index none c.loop-leaf-test.true c.loop-leaf.invariant c.in_default.ensures
