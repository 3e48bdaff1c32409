use Rattle.std.proofs.Common.{sym, subst, take}
use Rattle.std.proofs.lemmas.List.{take_more}
use Rattle.fact_books.proofs.RunLemmas.{AllSound-at}
use Rattle.fact_books.proofs.SweepLemmas.{take-past}
use Rattle.book_stretches.specs.Sweep.{end, IsVerdict}
use Rattle.book_stretches.proofs.Votes.{none-yet, vote-known, verdict-has, verdict-step}
use Rattle.book_stretches.proofs.telling.Telling.judged.Goals as goal

pub loop-i-init : goal.loop-i-init
loop-i-init c = none-yet c.args.self.now (end c.args.self.now)

pub vote_of-vote-requires-clause-numbered : goal.vote_of-vote-requires-clause-numbered
vote_of-vote-requires-clause-numbered c = (AllSound-at _ _ _ _ c.loop-i-test.true c.requires.sound).0

pub with_vote-found-requires-clause-found : goal.with_vote-found-requires-clause-found
with_vote-found-requires-clause-found c =
    verdict-has c.args.self.now (end c.args.self.now) (take c.loop-i.i c.args.active.now) c.loop-i.found c.loop-i.invariant

pub with_vote-found-requires-clause-vote : goal.with_vote-found-requires-clause-vote
with_vote-found-requires-clause-vote c = vote-known c.args.self.now (end c.args.self.now) _ c.vote_of-vote.result c.vote_of-vote.ensures

pub loop-i-preserved : goal.loop-i-preserved
loop-i-preserved c =
    let x = c.args.self.now in
    let active = c.args.active.now in
    let l = c.loop-i in
    subst (λ rs. IsVerdict x (end x) rs c.with_vote-found.result) (sym (take_more active l.i _ c.loop-i-test.true))
    (verdict-step x (end x) (take l.i active) _ l.found c.vote_of-vote.result c.with_vote-found.result l.invariant c.vote_of-vote.ensures
    c.with_vote-found.ensures)

pub returns : goal.returns
returns c =
    subst (λ l. IsVerdict c.args.self.now (end c.args.self.now) l c.loop-i.found) (take-past c.args.active.now c.loop-i.i c.loop-i-test.false) c.loop-i.invariant
