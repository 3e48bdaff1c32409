use Rattle.std.proofs.Common.{sym, subst}
use Rattle.fact_books.specs.Sweep.{GoesTo}
use Rattle.std.proofs.lemmas.Result.{on_ok_weaker}
use Rattle.book_stretches.specs.Telling.{IsLeastClash}
use Rattle.book_stretches.specs.Sweep.{book_of, end, HasMovedOn, IsVerdict}
use Rattle.book_stretches.proofs.Going.{as-ok, moved-on}
use Rattle.book_stretches.proofs.Votes.{verdict-nothing, verdict-one, verdict-several}
use Rattle.book_stretches.proofs.telling.Telling.tell_next.Goals as goal

pub push_none-requires-clause-nothing : goal.push_none-requires-clause-nothing
push_none-requires-clause-nothing c =
    let x = c.args.self.now in
    let last = c.last_of-last.result in
    let to = subst (λ r. GoesTo c.args.active.now r c.args.until last) c.end-rank.ensures c.last_of-last.ensures in
    verdict-nothing x c.args.active.now c.args.until last c.requires.say to
    (subst (IsVerdict x (end x) c.args.active.now) c.in-Nothing.is c.judged.ensures)

pub push_vote-requires-clause-one : goal.push_vote-requires-clause-one
push_vote-requires-clause-one c =
    let x = c.args.self.now in
    let last = c.last_of-last.result in
    let to = subst (λ r. GoesTo c.args.active.now r c.args.until last) c.end-rank.ensures c.last_of-last.ensures in
    verdict-one x c.args.active.now c.args.until last c.requires.say to
    c.in-One.vote (subst (IsVerdict x (end x) c.args.active.now) c.in-One.is c.judged.ensures)

pub returns-in-Several-clause-stop : goal.returns-in-Several-clause-stop
returns-in-Several-clause-stop c =
    let x = c.args.self.now in
    let last = c.last_of-last.result in
    let to = subst (λ r. GoesTo c.args.active.now r c.args.until last) c.end-rank.ensures c.last_of-last.ensures in
    subst (IsLeastClash (book_of x)) (sym c.end-rank.ensures)
    (verdict-several x c.args.active.now c.args.until last c.requires.say to
    c.requires.telling (subst (IsVerdict x (end x) c.args.active.now) c.in-Several.is c.judged.ensures))

pub returns-in-Nothing-clause-ok : goal.returns-in-Nothing-clause-ok
returns-in-Nothing-clause-ok c =
    let x = c.args.self.now in
    let last = c.last_of-last.result in
    let to = subst (λ r. GoesTo c.args.active.now r c.args.until last) c.end-rank.ensures c.last_of-last.ensures in
    as-ok (HasMovedOn c.args.until x c.push_none.new.self) c.push_none.result c.told_as.result c.told_as.ensures
    (on_ok_weaker c.push_none.result (λ moved. moved-on x c.push_none.new.self last c.args.until moved to.0 to.1) c.push_none.ensures)

pub returns-in-One-clause-ok : goal.returns-in-One-clause-ok
returns-in-One-clause-ok c =
    let x = c.args.self.now in
    let last = c.last_of-last.result in
    let to = subst (λ r. GoesTo c.args.active.now r c.args.until last) c.end-rank.ensures c.last_of-last.ensures in
    as-ok (HasMovedOn c.args.until x c.push_vote.new.self) c.push_vote.result c.told_as-in-One.result c.told_as-in-One.ensures
    (on_ok_weaker c.push_vote.result (λ moved. moved-on x c.push_vote.new.self last c.args.until moved to.0 to.1) c.push_vote.ensures)
