use Rattle.std.proofs.Common.{sym, subst, length, arith}
use Rattle.std.proofs.lemmas.List.{take_more}
use Rattle.fact_books.specs.Sweep.{IsVerdict, tag_vote, values_of, leads_of}
use Rattle.fact_books.proofs.RunLemmas.{AllSound-at}
use Rattle.fact_books.proofs.VerdictLemmas.{verdict-step}
use Rattle.fact_books.proofs.FillLemmas.{leads-at, leads-length}
use Rattle.fact_books.proofs.SweepLemmas.{take-past}
use Rattle.fact_books.proofs.judging.judged.Goals as goal

pub vote_of-vote-requires-clause-numbered : goal.vote_of-vote-requires-clause-numbered
vote_of-vote-requires-clause-numbered c = (AllSound-at _ _ _ _ c.loop-i-test.true c.requires.sound).0

pub bounds-leads-i : goal.bounds-leads-i
bounds-leads-i c =
    let long = leads-length (leads_of c.args.shape.now) c.args.first c.args.last c.args.active.now c.args.leads.now c.requires.leads in
    omega (arith, long, c.loop-i-test.true)

pub vote_of-vote-requires-clause-lead : goal.vote_of-vote-requires-clause-lead
vote_of-vote-requires-clause-lead c =
    leads-at (leads_of c.args.shape.now) c.args.first c.args.last c.args.active.now c.args.leads.now c.loop-i.i _ _ c.loop-i-test.true c.requires.leads

pub loop-i-preserved : goal.loop-i-preserved
loop-i-preserved c =
    subst (λ l. IsVerdict c.args.outcomes.now
    (tag_vote c.args.outcomes.now (leads_of c.args.shape.now) (values_of c.args.outcomes.now c.args.done.now)
    (length c.args.done.now)) l c.with_vote-found.result)
    (sym (take_more c.args.active.now c.loop-i.i _ c.loop-i-test.true))
    (verdict-step _ _ _ _ _ _ _ c.loop-i.invariant c.vote_of-vote.ensures c.with_vote-found.ensures)

pub returns : goal.returns
returns c =
    subst (λ l. IsVerdict c.args.outcomes.now
    (tag_vote c.args.outcomes.now (leads_of c.args.shape.now) (values_of c.args.outcomes.now c.args.done.now) (length c.args.done.now)) l c.loop-i.found)
    (take-past c.args.active.now c.loop-i.i c.loop-i-test.false) c.loop-i.invariant
