use Rattle.std.proofs.Common.{◌≡◌, ◌<◌, ◌≤◌, subst, sym, ◌∙◌, length}
use Rattle.std.specs.Option.{MatchOption}
use Rattle.book_jobs.specs.declared.job.TheConstants.{MAX_LEVELS}
use Rattle.book_jobs.specs.JobTrees.{leaves, levels}
use Rattle.book_jobs.specs.Jobs.{IsFirstOutside}
use Rattle.book_jobs.proofs.JobLemmas.{outside-made, leaves-some}
use Rattle.book_jobs.proofs.making.make.Goals as goal

pub returns-in-Some-outside-clause-refused : goal.returns-in-Some-outside-clause-refused
returns-in-Some-outside-clause-refused c =
    let found = subst (λ o. MatchOption o (MAX_LEVELS < levels c.args.job.now)
    (λ list. (list.items ≡ leaves c.args.job.now) × (levels c.args.job.now ≤ MAX_LEVELS))) c.in-Some.is
    c.in_ok-leaves.ensures in
    outside-made c.args.spec.now.run c.args.job.now c.in-Some-outside.error found.1
    (subst (λ ls. IsFirstOutside c.args.spec.now.run ls c.in-Some-outside.error) (c.as_slice.ensures.value ∙ found.0) c.in-Some-outside.ensures)

pub returns-in-Ok-clause-started : goal.returns-in-Ok-clause-started
returns-in-Ok-clause-started c =
    let found = subst (λ o. MatchOption o (MAX_LEVELS < levels c.args.job.now)
    (λ list. (list.items ≡ leaves c.args.job.now) × (levels c.args.job.now ≤ MAX_LEVELS))) c.in-Some.is
    c.in_ok-leaves.ensures in
    c.in-Ok.ensures.started (subst (λ ls. 0 < length ls) (sym (c.as_slice-2.ensures.value ∙ found.0)) (leaves-some c.args.job.now))
